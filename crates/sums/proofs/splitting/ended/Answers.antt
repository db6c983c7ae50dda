-- All blocks end with the reach; before that, as many as fit whole.
use Rattle.std.proofs.Common.{arith}
use Rattle.rules.proofs.Laws.Blocks.{ended_all, ended_part}
use Rattle.sums.proofs.splitting.ended.Goals as goal

pub returns-then-b-n : goal.returns-then-b-n
returns-then-b-n c = rw (c.blocks-then-b-n.ensures, c.if-b-n.true) (ended_all c.args.n)

pub returns : goal.returns
returns c = ended_part c.args.n c.args.b (omega (arith, c.requires, c.if-b-n.false))
