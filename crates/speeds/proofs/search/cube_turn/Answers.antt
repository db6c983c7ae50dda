-- A turn ends at the whole cube root or above it, and so does 16,384.
use Prim.Native.Nat.{ℕ, ◌*◌, ◌<◌}
use native.Mathlib.Nat.{mul-le-mul}
use native.Mathlib.Omega.{arith}
use Rattle.whole.specs.Root.{cube_turn_above}
use Rattle.speeds.proofs.search.cube_turn.Goals as goal

square_least : (x : ℕ) → 0 < x → 0 < x * x
square_least x h = omega (arith, mul-le-mul h h)

pub returns : goal.returns
returns c =
    let above = cube_turn_above c.args.y c.args.x (square_least c.args.x c.requires.1.0) in
    (grind (arith, above), omega arith)
