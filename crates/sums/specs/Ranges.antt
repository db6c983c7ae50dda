-- Tables that fit each other, depths in range, and how large a sum of numbers of the lent tables is.
use Rattle.std.specs.Prelude.{◌≡◌, List, ℕ, ◌-◌, ◌*◌, ◌≤◌, ◌<◌, length, ℤ, pos, ◌≤ℤ◌}
use Rattle.whole.specs.Parts.{Within}
use Rattle.rules.specs.Limits.{most_cells, deepest}
use Rattle.rules.specs.StateAndBed.{cells_over, depth_in}
use Rattle.rules.specs.Sums.{blocks_of, sum_to}
use Rattle.rules.specs.Laws.Blocks.{Cut}
use Rattle.sums.specs.declared.splitting.Split.{Split}

-- a state, its bed and its sums fit each other
pub record TablesFit (bed t sums : List ℤ) : Type 0 where
  pub some : 0 < cells_over bed
  pub most : cells_over bed ≤ most_cells
  pub state : length t ≡ 4 * cells_over bed
  pub blocks : length sums ≡ blocks_of (cells_over bed)

-- every mean depth is in range
abbrev pub DepthsIn : List ℤ → List ℤ → Type 0
DepthsIn bed t = (i : ℕ) → i < cells_over bed → (pos 0 ≤ℤ depth_in bed t i) × (depth_in bed t i ≤ℤ deepest)

-- 2^32: no number of an i32 table, and no mean depth of one, is larger
abbrev pub most_addend : ℕ
most_addend = 4294967296

abbrev pub Addend : ℤ → Type 0
Addend x = Within most_addend x

-- the sum of f's values from a up to b, each of them no larger
pub record Added (f : ℕ → ℤ) (a b : ℕ) (r : ℤ) : Type 0 where
  pub is : r ≡ sum_to f a b
  pub size : Within ((b - a) * most_addend) r

-- a split, as the law of its cut has it
abbrev pub SplitSays : ℕ → ℕ → ℕ → Split → Type 0
SplitSays n a b s = Cut n a b s.head s.first s.last s.tail
