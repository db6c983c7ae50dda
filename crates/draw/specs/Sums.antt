-- To be believed. The running sums.
use Rattle.std.specs.Prelude.{ℕ, ℤ, List, Float, cond, bit_xor, fold, is_nan, to_bits}
use Rattle.std.specs.Int.{w64, cast_unsigned, rotate_left}
use Rattle.std.specs.Float.Ieee.{binary64}
use Rattle.draw.specs.Numbers.{following}

-- with one more number, and with those of a table
unfoldable pub mixed : ℕ → ℕ → ℕ
mixed sum bits = following (bit_xor sum bits)

unfoldable pub summed : ℕ → List ℤ → ℕ
summed sum table = fold (λ s x. mixed s (cast_unsigned w64 x)) sum table

-- turned by one bit
unfoldable pub rolled : ℕ → ℕ → ℕ
rolled sum bits = bit_xor (rotate_left w64 sum 1) bits

-- 2 for a NaN
unfoldable pub double_bits : Float → ℕ
double_bits x = cond (is_nan x) 2 (to_bits binary64 x)
