use Rattle.std.proofs.Common.{arith}
use Rattle.std.proofs.lemmas.Int.{ints, to_z-of_z}
use Rattle.rules.specs.Finishing.{clipped}
use Rattle.finishing.specs.Laws.Depths.{minus_is}
use Rattle.finishing.proofs.cell.clip.Goals as goal

pub returns-then-mean-slope : goal.returns-then-mean-slope
unfolding clipped
returns-then-mean-slope c = grind (arith, ints, to_z-of_z)

pub returns-then-slope-mean : goal.returns-then-slope-mean
unfolding clipped
returns-then-slope-mean c = grind (arith, ints, to_z-of_z, minus_is c.requires, c.if-slope-mean.true)

pub returns : goal.returns
unfolding clipped
returns c = grind (arith, ints, to_z-of_z, minus_is c.requires, c.if-slope-mean.false)
