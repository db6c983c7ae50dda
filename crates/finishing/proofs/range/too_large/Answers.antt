use Rattle.std.proofs.Common.{arith}
use Rattle.std.proofs.lemmas.Int.{ints, to_z-of_z}
use Rattle.rules.specs.Refusals.{any}
use Rattle.finishing.specs.Unfit.{too_large}
use Rattle.finishing.proofs.range.too_large.Goals as goal

pub returns-then-either_past-2 : goal.returns-then-either_past-2
unfolding too_large any
returns-then-either_past-2 c = grind (arith, ints, to_z-of_z)

pub returns-else-either_past-2 : goal.returns-else-either_past-2
unfolding too_large any
returns-else-either_past-2 c = grind (arith, ints, to_z-of_z)
