-- `first_digits` keeps `Turning` on each of its turns, and the last leaves the root of the first pairs.
use Prim.Native.Nat.{◌-◌, ◌*◌, ◌^◌}
use Rattle.digits.proofs.Turns.{Turning}
use Rattle.digits.proofs.first_digits.Given as goal

abbrev pub invariant-loop-t : goal.invariant-loop-t
invariant-loop-t l = Turning (2 ^ l.turns * (l.number * 2)) (2 ^ (61 - l.turns)) l.t.bit l.t.twice l.t.rest

abbrev pub decreases-loop-t : goal.decreases-loop-t
decreases-loop-t l = l.t.bit
