use Rattle.std.proofs.Common.{arith}
use Rattle.rules.specs.Finishing.{is_limited}
use Rattle.finishing.proofs.unfinished.UnfinishedTable.is_limited.Goals as goal

pub returns-then-marked : goal.returns-then-marked
unfolding is_limited
returns-then-marked c = λ ρ. let m = c.marked.ensures ρ in grind arith

pub returns-else-marked : goal.returns-else-marked
unfolding is_limited
returns-else-marked c = λ ρ. let m = c.marked.ensures ρ in grind arith
