-- The turn ends at the cube-root number or above it, and from there the search goes down to it.
use Prim.Native.Nat.{◌+◌, ◌*◌, ◌≤◌, ◌<◌}
use Rattle.speeds.proofs.search.largest_cube.Given as goal

abbrev pub invariant-loop-c : goal.invariant-loop-c
invariant-loop-c l = (l.c ≤ 16384) × (l.y < (l.c + 1) * (l.c + 1) * (l.c + 1))

abbrev pub decreases-loop-c : goal.decreases-loop-c
decreases-loop-c l = l.c
