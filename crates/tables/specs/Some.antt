-- To be believed: `some`, `lowest` and `IsLowest`.
-- Tests of every place below n: whether some place has a property, and the lowest that has.
use Rattle.std.specs.Prelude.{◌≡◌, Bool, true, false, cond, ◌||◌, ℕ, zero, suc, ◌<◌}

-- whether some place below n has p
unfoldable pub some : (ℕ → Bool) → ℕ → Bool
some p zero = false
some p (suc n) = some p n || p n

-- the lowest that has, or n
unfoldable pub lowest : (ℕ → Bool) → ℕ → ℕ
lowest p zero = zero
lowest p (suc n) = cond (some p n) (lowest p n) (cond (p n) n (suc n))

-- ---- the lowest place has the property, and none below it
pub record IsLowest (p : ℕ → Bool) (n i : ℕ) : Type 0 where
  pub below : i < n
  pub has : p i ≡ true
  pub under : (j : ℕ) → j < i → p j ≡ false
