-- The sum so far is that of the numbers read.
use Rattle.std.proofs.Common.{◌≡◌, take}
use Rattle.draw.specs.Sums.{summed}
use Rattle.draw.proofs.sums.summed.Given as goal

abbrev pub invariant-loop-x : goal.invariant-loop-x
invariant-loop-x l = l.s ≡ summed l.sum (take l.x-index l.table)
