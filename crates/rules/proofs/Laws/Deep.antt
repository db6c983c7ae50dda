-- A cell that is deeper than d is not shallow.
-- Assumes nothing.
use Rattle.std.specs.Prelude.{◌≡◌, false, ℕ, ℤ, ◌<ℤ◌}
use Rattle.whole.specs.Tests.{no_le}
use Rattle.rules.specs.Reach.{Reach, State, under, h0}
use Rattle.rules.specs.Finishing.{shallow_at}

module _ (d : ℤ) (r : Reach) (s : State) where
  abbrev pub Deep : ℕ → Type 0
  Deep i = d <ℤ h0 (under r i) (s i)

  pub is_deep : (i : ℕ) → Deep i → shallow_at d r s i ≡ false
  is_deep i h = no_le (h0 (under r i) (s i)) d h
