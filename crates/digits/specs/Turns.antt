-- What the private functions of the digits hand to one another. No public contract cites these.
use Rattle.std.specs.Prelude.{ℕ, ◌+◌, ◌-◌, ◌*◌, ◌/◌, ◌^◌, ◌≤◌, ◌<◌}

-- so small that a turn stays within 64 bits: what is left is less than the square still grows by
pub record Small (bit twice rest : ℕ) : Type 0 where
  pub most : rest < 2 * twice + 4 * bit
  pub top : twice + 4 * bit ≤ 2 ^ 63

-- one turn: the digit is a nought where what is left falls short of the trial, and else a one
pub data Turned (bit twice rest : ℕ) : ℕ → ℕ → ℕ → Type 0 where
  nought : rest < twice + bit → Turned bit twice rest (bit / 2) twice (rest * 2)
  one : twice + bit ≤ rest → Turned bit twice rest (bit / 2) (twice + bit + bit) ((rest - (twice + bit)) * 2)
