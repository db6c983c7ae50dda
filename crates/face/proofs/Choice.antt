-- The library's lesser and greater of two numbers are the rules'.
-- Assumes nothing.
use Rattle.std.proofs.Common.{◌≡◌, ℤ, arith}
use Rattle.std.proofs.lemmas.Int.{ints}
use Rattle.std.specs.Int.{int_min, int_max}
use Rattle.whole.specs.Choice.{min_z, max_z}

pub min_is : (a b : ℤ) → int_min a b ≡ min_z a b
unfolding min_z
min_is a b = grind (arith, ints)

pub max_is : (a b : ℤ) → int_max a b ≡ max_z a b
unfolding max_z
max_is a b = grind (arith, ints)
