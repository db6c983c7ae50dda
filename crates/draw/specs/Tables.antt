-- To be believed. What is put into a table of numbers with a sign, of 32 bits each.
use Rattle.std.specs.Prelude.{ℕ, ◌-◌, ◌/◌, ◌^◌, ltb, leb, cond, List, map, ℤ, pos, neg_ℤ}
use Rattle.std.specs.List.{range_with_len}
use Rattle.draw.specs.Numbers.{plus}

-- the number of which x is the 64 bits, where 32 bits hold it
unfoldable pub narrow : ℕ → ℤ
narrow x = cond (ltb x (2 ^ 31)) (pos x) (cond (leb (2 ^ 64 - 2 ^ 31) x) (neg_ℤ (pos (2 ^ 64 - x))) (pos 0))

-- number i of a pattern, and its first n numbers
unfoldable pub pattern_at : ℕ → ℕ → ℤ
pattern_at x i = narrow (plus (x / 2 ^ 34) i)

abbrev pub pattern : ℕ → ℕ → List ℤ
pattern x n = map (pattern_at x) (range_with_len 0 n)
