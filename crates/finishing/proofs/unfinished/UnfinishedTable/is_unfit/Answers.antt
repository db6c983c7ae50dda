use Rattle.std.proofs.Common.{arith}
use Rattle.std.proofs.lemmas.Int.{ints, to_z-of_z}
use Rattle.rules.specs.Refusals.{any}
use Rattle.finishing.specs.Unfit.{unfit}
use Rattle.finishing.proofs.unfinished.UnfinishedTable.is_unfit.Goals as goal

pub returns-then-bad_dry : goal.returns-then-bad_dry
unfolding unfit any
returns-then-bad_dry c = grind (arith, to_z-of_z)

pub returns-else-bad_dry : goal.returns-else-bad_dry
unfolding unfit any
returns-else-bad_dry c = grind (arith, ints, to_z-of_z)
