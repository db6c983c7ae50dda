-- Below k each entry is the sum of its block.
use Rattle.std.proofs.Common.{◌≡◌, length, pos}
use Rattle.tables.specs.Rows.{Written}
use Rattle.rules.specs.Sums.{block_sum}
use Rattle.sums.proofs.filling.fill.Given as goal

abbrev pub invariant-loop-k : goal.invariant-loop-k
invariant-loop-k l = (length l.sums ≡ length l.initial.sums) × Written (pos 0) l.sums l.k (block_sum l.bed l.state)
