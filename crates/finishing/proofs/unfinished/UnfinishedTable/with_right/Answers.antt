use Rattle.std.proofs.Common.{arith}
use Rattle.std.proofs.lemmas.Int.{to_z-of_z}
use Rattle.rules.specs.Finishing.{with_right}
use Rattle.finishing.proofs.unfinished.UnfinishedTable.with_right.Goals as goal

pub returns-then-i-self : goal.returns-then-i-self
unfolding with_right
returns-then-i-self c = grind (arith, to_z-of_z)

pub returns : goal.returns
unfolding with_right
returns c = grind (arith, to_z-of_z)
