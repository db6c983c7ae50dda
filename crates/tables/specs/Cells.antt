-- To be believed: `Cell`, `as_list`, `as_cell`, `seen`, `columns_of`, `table_of` and `cell_in`.
-- Cells of four whole numbers: as the code holds them, and in lent tables, a column for each of the four.
use Rattle.std.specs.Prelude.{List, [], ◌∷◌, ℕ, ℤ, pos}
use Rattle.std.proofs.Math.ListN.{get_or}
use Rattle.tables.specs.Rows.{Written}
use Rattle.tables.specs.Columns.{columns, in_column}
use Rattle.tables.specs.Columns.{put_from}

-- the working state of one cell: level mean, level slope, discharge mean, discharge slope
pub record Cell : Type 0 where
  pub e0 : ℤ
  pub e1 : ℤ
  pub q0 : ℤ
  pub q1 : ℤ

-- as the code holds them, [i64; 4]
abbrev pub as_list : Cell → List ℤ
as_list c = c.e0 ∷ c.e1 ∷ c.q0 ∷ c.q1 ∷ []

abbrev pub as_cell : List ℤ → Cell
as_cell l = record { e0 = get_or l 0 (pos 0); e1 = get_or l 1 (pos 0); q0 = get_or l 2 (pos 0); q1 = get_or l 3 (pos 0) }

-- ---- the working stage, [[i64; 4]; 1024]
-- the cell that it shows at each place
abbrev pub seen : List (List ℤ) → ℕ → Cell
seen a i = as_cell (get_or a i [])

-- below i it has f's cells
abbrev pub Holds : List (List ℤ) → ℕ → (ℕ → Cell) → Type 0
Holds a i f = Written [] a i (λ k. as_list (f k))

-- ---- a lent state of n cells: columns of its level means, level slopes, discharge means and discharge slopes
abbrev pub columns_of : (ℕ → Cell) → List (ℕ → ℤ)
columns_of s = (λ i. (s i).e0) ∷ (λ i. (s i).e1) ∷ (λ i. (s i).q0) ∷ (λ i. (s i).q1) ∷ []

unfoldable pub table_of : ℕ → (ℕ → Cell) → List ℤ
table_of n s = columns n (columns_of s)

-- cell i as its table shows it
abbrev pub cell_in : ℕ → List ℤ → ℕ → Cell
cell_in n t i = record { e0 = in_column n t 0 i; e1 = in_column n t 1 i; q0 = in_column n t 2 i; q1 = in_column n t 3 i }

module _ (n : ℕ) where
  -- ---- the table with cell i put, by a loop that has stored those before it
  abbrev pub put_cell : List ℤ → ℕ → Cell → List ℤ
  put_cell t i x = put_from n 0 t i (as_list x)
