-- A number is the whole root where what is left beside its square is at most twice that number, and the other way round; and
-- what an answer tells its caller. Assumes nothing.
use mathlib.Core.Path.{◌≡◌}
use Prim.Native.Nat.{ℕ, suc, ◌+◌, ◌*◌, ◌^◌, ◌≤◌}
use native.Mathlib.Nat.{mul-le-mul}
use native.Mathlib.Decide.{dec_le}
use native.Mathlib.Omega.{arith}
use Rattle.whole.specs.Largest.{at_most}
use Rattle.std.specs.Prelude.{Some}
use Rattle.digits.specs.declared.Root.{Root}
use Rattle.digits.specs.Root.{RootOf, DigitsSay, within}

squares : (a b : ℕ) → a ≤ b → a * a ≤ b * b
squares a b l = mul-le-mul l l

pub root_by : (z whole rest : ℕ) → whole * whole + rest ≡ z → rest ≤ 2 * whole → RootOf z whole rest
root_by z w r e l = record {
  largest = record { has = omega arith; most = λ b. at_most (λ a. a * a) squares z w b (omega arith) };
  left = e;
}

pub rest_most : (z whole rest : ℕ) → RootOf z whole rest → rest ≤ 2 * whole
rest_most z w r o = go (dec_le r (2 * w))
  where
    go : Dec (r ≤ 2 * w) → r ≤ 2 * w
    go (yes l) = l
    go (no l) = let e = o.left in let k : suc w ≤ w = o.largest.most (suc w) (omega arith) in omega arith

-- ---- of a call that gave one
pub told : {number noughts : ℕ} {r : Root} → DigitsSay number noughts (Some r) → RootOf (number * 4 ^ noughts) r.whole r.rest
told (within f o) = o
