-- The smaller of where the next block begins and where the reach ends.
use Rattle.std.proofs.Common.{⊎_elim, arith}
use Rattle.rules.proofs.Laws.Blocks.{block_end}
use Rattle.sums.proofs.blocks.block_to.Goals as goal

pub returns : goal.returns
returns c = ⊎_elim (λ e. omega (arith, e)) (λ e. omega (arith, e)) (block_end c.args.n c.args.k)
