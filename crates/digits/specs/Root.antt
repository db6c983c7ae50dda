-- To be believed. The whole root of a number, and what its square leaves; and within which limits it is given.
use Rattle.std.specs.Prelude.{◌≡◌, ℕ, ◌+◌, ◌*◌, ◌^◌, ◌≤◌, ◌<◌, Option, Some, None}
use Rattle.whole.specs.Largest.{IsLargest}
use Rattle.digits.specs.declared.Root.{Root}

-- the largest number whose square is at most z, and what is left of z beside that square
pub record RootOf (z whole rest : ℕ) : Type 0 where
  pub largest : IsLargest (λ a. a * a ≤ z) whole
  pub left : whole * whole + rest ≡ z

-- a number of at most 31 pairs of bits, and at most 30 pairs of nought behind it
pub record Fits (number noughts : ℕ) : Type 0 where
  pub pairs : number < 4 ^ 31
  pub behind : noughts ≤ 30

-- within the limits the root of the number with its noughts, beyond them none
pub data DigitsSay (number noughts : ℕ) : Option Root → Type 0 where
  within : {r : Root} → Fits number noughts → RootOf (number * 4 ^ noughts) r.whole r.rest → DigitsSay number noughts (Some r)
  beyond : (Fits number noughts → ⊥) → DigitsSay number noughts None
