-- Newton's turns toward a cube root: a turn from x goes to the mean of x, x and y / x², rounded down.
-- Assumes nothing.
use Rattle.std.specs.Prelude.{ℕ, ◌+◌, ◌*◌, ◌/◌, ◌≤◌, ◌<◌}
use Rattle.std.proofs.Math.Nat as NatL
use Rattle.std.proofs.Common.{arith}
use Rattle.std.proofs.Math.Decide.{dec_le}
use Rattle.whole.specs.Parts.{cross}

-- four times a product is at most the square of the sum, as the square of the difference is not negative
pub four_products : (a b : ℕ) → 4 * (a * b) ≤ (a + b) * (a + b)
four_products a b = go (dec_le a b)
  where
    go : Dec (a ≤ b) → 4 * (a * b) ≤ (a + b) * (a + b)
    go (yes h) = omega (arith, cross h h)
    go (no h) = let g : b ≤ a = omega arith in omega (arith, cross g g)

-- 27 times a product of three numbers, two of them the same, is at most the cube of their sum: it is less by the square
-- of t - x, times t + 8·x
pub three_products : (x t : ℕ) → 27 * (x * x * t) ≤ (2 * x + t) * (2 * x + t) * (2 * x + t)
three_products x t = omega (arith, NatL.mul-le-mul_left (t + 8 * x) (four_products x t))

-- wherever a turn toward a cube root starts, it ends at the whole cube root or above
pub cube_turn_above : (y x : ℕ) → 0 < x * x →
    y < ((2 * x + y / (x * x)) / 3 + 1) * ((2 * x + y / (x * x)) / 3 + 1) * ((2 * x + y / (x * x)) / 3 + 1)
cube_turn_above y x p =
    let q = y / (x * x) in
    let m = (2 * x + q) / 3 in
    let below : y < x * x * (q + 1) = NatL.lt-mul-div-succ y p in
    let next : 2 * x + (q + 1) ≤ 3 * (m + 1) = omega arith in
    omega (arith, below, three_products x (q + 1), NatL.mul-le-mul (NatL.mul-le-mul next next) next)
