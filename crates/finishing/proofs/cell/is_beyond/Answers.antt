use Rattle.std.proofs.Common.{arith}
use Rattle.std.proofs.lemmas.Int.{ints, to_z-of_z}
use Rattle.rules.specs.Finishing.{beyond}
use Rattle.finishing.specs.Laws.Depths.{minus_is}
use Rattle.finishing.proofs.cell.is_beyond.Goals as goal

pub returns-then-mean-slope : goal.returns-then-mean-slope
unfolding beyond
returns-then-mean-slope c = grind (arith, ints, to_z-of_z)

pub returns-else-mean-slope : goal.returns-else-mean-slope
unfolding beyond
returns-else-mean-slope c = grind (arith, ints, to_z-of_z, minus_is c.requires)
