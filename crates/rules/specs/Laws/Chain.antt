-- To be believed: `Chain`.
-- Any number of calls one after another, of any reach. No reach is named here.
use Rattle.std.specs.Prelude.{ℤ, pos, ◌+ℤ◌}

-- each from the state that the one before it left; w and v are what crossed the two ends in one of them, a and b the sums
pub data Chain {S : Type 0} (Step : S → S → ℤ → ℤ → Type 0) : S → S → ℤ → ℤ → Type 0 where
  stop : (s : S) → Chain Step s s (pos 0) (pos 0)
  step : (s m t : S) (w v a b : ℤ) → Step s m w v → Chain Step m t a b → Chain Step s t (w +ℤ a) (v +ℤ b)
