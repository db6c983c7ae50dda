use mir.Facts.{to_z-of_z}
use Rattle.reach.proofs.limits.outside.Goals as goal

pub returns-then-x-low : goal.returns-then-x-low
returns-then-x-low c = let s = c.before in rw (simp (to_z-of_z, s.ranges.x, s.ranges.low) at c.if-x-low.true) c.if-x-low.true

pub returns-else-x-low : goal.returns-else-x-low
returns-else-x-low c =
    let s = c.before in
    rw (simp (to_z-of_z, s.ranges.x, s.ranges.low) at c.if-x-low.false, to_z-of_z s.ranges.high, to_z-of_z s.ranges.x)
