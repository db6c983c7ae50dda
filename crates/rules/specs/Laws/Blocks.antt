-- Which blocks lie whole between two faces, and which cells are in none of those.
use Rattle.std.specs.Prelude.{◌≡◌, true, false, ◌⊎◌, ℕ, ◌+◌, ◌-◌, ◌/◌, ◌≤◌, ◌<◌}
use Rattle.rules.specs.Limits.{block_cells}
use Rattle.rules.specs.Sums.{blocks_of, block_from, block_to, whole_block}
use Rattle.rules.specs.Laws.Summing.{Has}

-- ---- how many blocks end at face b or before it
pub record Ended (n b last : ℕ) : Type 0 where
  pub most : last ≤ blocks_of n
  pub before : (m : ℕ) → m < last → block_to n m ≤ b
  pub after : (m : ℕ) → last ≤ m → m < blocks_of n → b < block_to n m
  -- at the end of the reach all do
  pub is : ((b ≡ n) × (last ≡ blocks_of n)) ⊎ ((b < n) × (last ≡ b / block_cells))

-- ---- the cells from a up to b: those up to head, the blocks from first up to last, and the cells from tail on
pub record Cut (n a b head first last tail : ℕ) : Type 0 where
  pub before : a ≤ head
  pub inside : head ≤ tail
  pub behind : tail ≤ b
  pub reach : b ≤ n
  pub order : first ≤ last
  pub most : last ≤ blocks_of n
  -- those blocks lie whole within a to b, and no others
  pub whole : Has (whole_block n a b) true first last
  pub under : Has (whole_block n a b) false 0 first
  pub over : Has (whole_block n a b) false last (blocks_of n)
  -- where they begin and end, if there are any
  pub ends : ((first < last) × (head ≡ block_from first) × (tail ≡ block_to n (last - 1))) ⊎ ((first ≡ last) × (head ≡ b) × (tail ≡ b))
  -- few cells are in none of them
  pub few : head - a + (b - tail) ≤ 30
