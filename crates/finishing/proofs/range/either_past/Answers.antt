use Rattle.std.proofs.Common.{arith}
use Rattle.std.proofs.lemmas.Int.{ints, to_z-of_z}
use Rattle.finishing.specs.Unfit.{either_past}
use Rattle.finishing.proofs.range.either_past.Goals as goal

pub returns-then-past : goal.returns-then-past
unfolding either_past
returns-then-past c = grind (arith, ints, to_z-of_z)

pub returns-else-past : goal.returns-else-past
unfolding either_past
returns-else-past c = grind (arith, ints, to_z-of_z)
