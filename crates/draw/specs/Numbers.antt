-- To be believed. What is drawn. A number with a sign stands as its 64 bits.
use Rattle.std.specs.Prelude.{ℕ, ◌+◌, ◌-◌, ◌*◌, ◌/◌, ◌%◌, ◌^◌, cond, eqb, bit_xor}

-- ---- in 64 bits
-- x + y, x - y, x * y and x << k
abbrev pub plus : ℕ → ℕ → ℕ
plus x y = (x + y) % 2 ^ 64

abbrev pub minus : ℕ → ℕ → ℕ
minus x y = (x + (2 ^ 64 - y)) % 2 ^ 64

abbrev pub times : ℕ → ℕ → ℕ
times x y = (x * y) % 2 ^ 64

abbrev pub shl : ℕ → ℕ → ℕ
shl x k = (x * 2 ^ k) % 2 ^ 64

-- ---- numbers drawn
-- what the first number is drawn from
abbrev pub seed : ℕ
seed = 88172645463325252

-- the next number
unfoldable pub following : ℕ → ℕ
following x =
    let a = bit_xor x (shl x 13) in
    let b = bit_xor a (a / 2 ^ 7) in
    bit_xor b (shl b 17)

-- the number of place i of a column of the reach r
unfoldable pub drawn : ℕ → ℕ → ℕ → ℕ
drawn r column i = following (following (following (bit_xor (bit_xor (bit_xor seed (shl r 40)) (shl column 24)) i)))

-- from 0 to m, from `low` on, up to `high`, and on either side of nought
unfoldable pub pick : ℕ → ℕ → ℕ
pick x m = x / 2 ^ 33 % (m % 2 ^ 31 + 1)

unfoldable pub above : ℕ → ℕ → ℕ → ℕ
above x low m = plus low (pick x m)

unfoldable pub below : ℕ → ℕ → ℕ → ℕ
below x high m = minus high (pick x m)

unfoldable pub either : ℕ → ℕ → ℕ
either x m = minus (pick x (plus m m)) m

-- as it is, or on an odd side with the other sign
unfoldable pub turned : ℕ → ℕ → ℕ
turned x side = cond (eqb (side % 2) 0) x (minus 0 x)
