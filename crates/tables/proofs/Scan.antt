-- A loop that looks through n places and stops at the lowest that has p:
-- what it knows at its start, after a turn, where it stops, and at its end.
-- Assumes nothing.
use Rattle.std.specs.Prelude.{◌≡◌, Bool, true, false, ℕ, ◌+◌, ◌≤◌, ◌<◌}
use Rattle.std.proofs.Common.{sym, ◌∙◌, arith, not-suc-le-zero, below_more}
use Rattle.tables.specs.Some.{some, lowest}
use Rattle.tables.proofs.Some.{none_some, yes_some, is_lowest, lowest_none}

-- no place below i has p
pub record Scanned (p : ℕ → Bool) (n i : ℕ) : Type 0 where
  pub most : i ≤ n
  pub none : (k : ℕ) → k < i → p k ≡ false

pub scan_none : (p : ℕ → Bool) (n : ℕ) → Scanned p n 0
scan_none p n = record { most = omega arith; none = λ k h. absurd (not-suc-le-zero h) }

module _ {p : ℕ → Bool} {n i : ℕ} (so_far : Scanned p n i) where
  -- `r` is what the test of place i gave
  pub scan_more : {r : Bool} → i < n → p i ≡ r → r ≡ false → Scanned p n (i + 1)
  scan_more h e left = record { most = omega arith; none = below_more (λ k. p k ≡ false) i so_far.none (e ∙ left) }

  -- a loop that answers whether there is one
  pub scan_found : {r : Bool} → i < n → p i ≡ r → r ≡ true → true ≡ some p n
  scan_found h e taken = sym (yes_some p n i h (e ∙ taken))

  pub scan_all : n ≤ i → false ≡ some p n
  scan_all h = sym (none_some p n (λ k l. so_far.none k (omega arith)))

  -- and one that answers which, or n
  pub scan_lowest : {r : Bool} → i < n → p i ≡ r → r ≡ true → i ≡ lowest p n
  scan_lowest h e taken = is_lowest p n i (record { below = h; has = e ∙ taken; under = so_far.none })

  pub scan_past : n ≤ i → n ≡ lowest p n
  scan_past h = lowest_none p n (sym (scan_all h))
