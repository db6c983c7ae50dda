-- Up to i the depths are added.
use Rattle.rules.specs.StateAndBed.{depth_in}
use Rattle.sums.specs.Ranges.{Added}
use Rattle.sums.proofs.adding.depths.Given as goal

abbrev pub invariant-loop-i : goal.invariant-loop-i
invariant-loop-i l = Added (depth_in l.bed l.state) l.a l.i l.water
