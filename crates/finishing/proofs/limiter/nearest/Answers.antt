use Rattle.std.proofs.Common.{arith}
use Rattle.std.proofs.lemmas.Int.{ints, to_z-of_z}
use Rattle.whole.specs.Choice.{min_z, max_z}
use Rattle.rules.specs.Finishing.{minmod}
use Rattle.finishing.proofs.limiter.nearest.Goals as goal

pub returns-then-b-gt0 : goal.returns-then-b-gt0
unfolding minmod min_z
returns-then-b-gt0 c = grind (arith, ints, to_z-of_z)

pub returns-then-b-lt0 : goal.returns-then-b-lt0
unfolding minmod max_z
returns-then-b-lt0 c = grind (arith, ints, to_z-of_z)

pub returns-else-a-lt0 : goal.returns-else-a-lt0
unfolding minmod
returns-else-a-lt0 c = grind (arith, ints, to_z-of_z)
