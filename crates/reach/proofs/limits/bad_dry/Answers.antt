use mir.Facts.{to_z-of_z}
use Rattle.reach.proofs.limits.bad_dry.Goals as goal

pub returns : goal.returns
returns c = simp (to_z-of_z, c.ranges.dry) at c.outside.ensures
