use Rattle.std.proofs.Common.{arith}
use Rattle.rules.specs.Finishing.{shallow_right}
use Rattle.finishing.proofs.unfinished.UnfinishedTable.shallow_right.Goals as goal

pub returns-then-i-self : goal.returns-then-i-self
unfolding shallow_right
returns-then-i-self c = grind arith

pub returns-else-i-self : goal.returns-else-i-self
unfolding shallow_right
returns-else-i-self c = grind arith
