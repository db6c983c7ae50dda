-- A loop that adds f's values from a on in 64 bits: what it has at its start and after a turn, and that it is not large.
-- Assumes nothing.
use Rattle.std.specs.Prelude.{◌≡◌, ℕ, ◌+◌, ◌*◌, ◌≤◌, ℤ, pos, ◌+ℤ◌}
use Rattle.std.proofs.Common.{sym, ap₂, ◌∙◌, subst, arith, to_z, of_z, to_z-of_z}
use Rattle.std.specs.Int.{w64}
use Rattle.whole.specs.Parts.{Within, b_add, fit}
use Rattle.rules.specs.Limits.{most_cells}
use Rattle.rules.proofs.Laws.Summing.{sum_none, sum_more}
use Rattle.sums.specs.Ranges.{most_addend, Addend, Added}

pub added_none : (f : ℕ → ℤ) (a : ℕ) → Added f a a (pos 0)
added_none f a = let e = sum_none f a in record { is = sym e; size = record { abs = omega arith } }

-- what was added is not large
pub added_most : {f : ℕ → ℤ} {a b : ℕ} {r : ℤ} → Added f a b r → b ≤ most_cells → Within (most_cells * most_addend) r
added_most s most = record { abs = omega (arith, s.size.abs) }

-- x is what is added for place i
module _ {f : ℕ → ℤ} {a i : ℕ} {r : ℤ} (s : Added f a i r) (from : a ≤ i) (most : i + 1 ≤ most_cells) (x : ℤ) (value : x ≡ f i)
    (small : Addend x) where
  more : Added f a (i + 1) (r +ℤ x)
  more = record {
    is = ap₂ ◌+ℤ◌ s.is value ∙ sym (sum_more f a i from);
    size = record { abs = omega (arith, (b_add s.size small).abs, from) };
  }

  pub added_more : Added f a (i + 1) (to_z w64 (of_z w64 (r +ℤ x)))
  added_more = subst (Added f a (i + 1)) (sym (to_z-of_z (fit (added_most more most) tt))) more
