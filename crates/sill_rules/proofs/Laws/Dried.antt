-- Once the step is over, a cell no deeper than the dry depth has no discharge, and any other keeps what the stage left it.
-- Assumes nothing.
use Rattle.std.specs.Prelude.{◌≡◌, ℕ, ℤ, pos, ◌≤ℤ◌, ◌<ℤ◌}
use Rattle.whole.specs.Tests.{yes_le, no_le}
use Rattle.sill_rules.specs.Reach.{Reach, Call, State, depth}
use Rattle.sill_rules.specs.Step.{rubbed, stage, dried_pool, dried, next}

module _ (r : Reach) (c : Call) (s : State) (i : ℕ) where
  -- its depth after the step
  abbrev after : ℤ
  after = depth (r.bed i) (next r c s i)

  pub dried_none : after ≤ℤ c.dry → (next r c s i).q ≡ pos 0
  unfolding next dried dried_pool depth
  dried_none l = rw (yes_le after c.dry l)

  pub dried_keeps : c.dry <ℤ after → (next r c s i).q ≡ (stage r c (rubbed r c s) i).q
  unfolding next dried dried_pool depth
  dried_keeps l = rw (no_le after c.dry l)
