use Rattle.std.proofs.Common.{arith}
use Rattle.rules.specs.Finishing.{spared}
use Rattle.finishing.proofs.unfinished.UnfinishedTable.is_spared.Goals as goal

pub returns-then-shallow_left : goal.returns-then-shallow_left
unfolding spared
returns-then-shallow_left c = grind arith

pub returns-else-shallow_left : goal.returns-else-shallow_left
unfolding spared
returns-else-shallow_left c = grind arith
