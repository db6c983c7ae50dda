-- How large a mean depth is that is formed of numbers of 32 bits, and what the depths of a block in range come to.
-- Assumes nothing.
use Rattle.std.specs.Prelude.{◌≡◌, List, ℕ, zero, suc, ◌+◌, ◌-◌, ◌*◌, ◌^◌, ◌≤◌, ◌<◌, get_or, ℤ, pos, ◌-ℤ◌}
use Rattle.std.proofs.Common.{ap, ⊎_elim, arith}
use Rattle.std.specs.Int.Signed.{mag}
use Rattle.whole.specs.Parts.{Within, b_add, b_sub, b_up, b_nonneg, mag_abs}
use Rattle.whole.specs.Quotient.{b_quot_by}
use Rattle.rules.specs.Limits.{block_cells, deepest}
use Rattle.rules.specs.Reach.{Bed, bed_at, z0, h0}
use Rattle.rules.specs.StateAndBed.{cells_over, depth_in}
use Rattle.rules.specs.Sums.{blocks_of, block_from, block_to, sum_from, block_sum}
use Rattle.rules.proofs.Laws.Blocks.{block_end}
use Rattle.reach.specs.Ranges.{UpTo}
use Rattle.sums.specs.Ranges.{DepthsIn, Addend}

-- a number of 32 bits
abbrev pub Word : ℤ → Type 0
Word x = Within 2147483648 x

pub mean_bed : (b : Bed) → Word b.zl → Word b.zr → Word (z0 b)
unfolding z0
mean_bed b l r = b_up 2147483648 (b_quot_by (pos 2) (b_add l r)) tt

-- the level stands in the first column
pub level_less_bed : (bed t : List ℤ) (i : ℕ) → get_or t i (pos 0) -ℤ z0 (bed_at bed i) ≡ depth_in bed t i
unfolding h0
level_less_bed bed t i = let e : i ≡ 0 * cells_over bed + i = omega arith in ap (λ (j : ℕ). get_or t j (pos 0) -ℤ z0 (bed_at bed i)) e

pub mean_depth : (e z : ℤ) → Word e → Word z → Addend (e -ℤ z)
mean_depth e z p q = b_sub p q

-- ---- a block in range
sum_most : (f : ℕ → ℤ) (a m : ℕ) → ((i : ℕ) → a ≤ i → i < a + m → UpTo deepest (f i)) → Within (m * 262144) (sum_from f a m)
unfolding sum_from
sum_most f a zero h = record { abs = omega arith }
sum_most f a (suc m) h =
    let s = b_add (sum_most f a m (λ i p q. h i p (omega arith))) (h (a + m) (omega arith) (omega arith)) in
    record { abs = omega (arith, s.abs) }

module _ (bed t : List ℤ) (m : ℕ) (inside : m < blocks_of (cells_over bed)) where
  abbrev n : ℕ
  n = cells_over bed

  -- its cells are some of the reach, sixteen at most
  pub block_within : (block_from m < block_to n m) × (block_to n m ≤ n) × (block_to n m ≤ block_from m + block_cells)
  block_within = ⊎_elim (λ e. (omega (arith, e), omega (arith, e), omega (arith, e)))
      (λ e. (omega (arith, e), omega (arith, e), omega (arith, e))) (block_end n m)

  -- so an i32 holds their sum
  pub block_small : DepthsIn bed t → mag (block_sum bed t m) < 2 ^ 31
  unfolding block_sum
  block_small depths =
      let w = block_within in
      let s = sum_most (depth_in bed t) (block_from m) (block_to n m - block_from m) (λ i p q. let d = depths i (omega (arith, w)) in
      b_nonneg d.0 d.1) in
      omega (arith, w, s.abs, mag_abs (block_sum bed t m))
