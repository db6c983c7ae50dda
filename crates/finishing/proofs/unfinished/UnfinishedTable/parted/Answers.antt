-- The last cell has no neighbour to its right, and so no inner face there.
-- Any other is parted from the next where the levels that the two show differ by more than the jump.
use Rattle.std.proofs.Common.{arith}
use Rattle.rules.specs.Finishing.{parted}
use Rattle.finishing.proofs.unfinished.UnfinishedTable.parted.Goals as goal

pub returns-then-i-self : goal.returns-then-i-self
unfolding parted
returns-then-i-self c = λ ρ. grind arith

pub returns-else-i-self : goal.returns-else-i-self
unfolding parted
returns-else-i-self c = λ ρ. grind arith
