-- Up to k the entries are added.
use Rattle.std.proofs.Common.{get_or, pos}
use Rattle.sums.specs.Ranges.{Added}
use Rattle.sums.proofs.adding.added.Given as goal

abbrev pub invariant-loop-k : goal.invariant-loop-k
invariant-loop-k l = Added (λ i. get_or l.sums i (pos 0)) l.a l.k l.water
