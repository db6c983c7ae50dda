-- Cells of four whole numbers, as the code holds them and in lent tables: the one shows the other.
-- Assumes nothing.
use Rattle.std.specs.Prelude.{◌≡◌, refl, List, ℕ, zero, suc, ◌+◌, ◌*◌, ◌<◌, length, ℤ, pos}
use Rattle.std.proofs.Common.{sym, ◌∙◌, arith, lit<}
use Rattle.std.proofs.Math.Path.{ap}
use Rattle.std.proofs.Math.ListN.{get_or}
use Rattle.tables.specs.Rows.{row}
use Rattle.tables.specs.Columns.{columns, column, in_column, length_columns, columns_show, columns_are, columns_each}
use Rattle.tables.specs.Columns.{length_put, Stores, stores_more}
use Rattle.tables.specs.Cells.{Cell, as_list, as_cell, columns_of, table_of, cell_in, put_cell}

-- what is so of 0, 1, 2 and 3 is so of each number below 4
pub of_each : (P : ℕ → Type 0) → P 0 → P 1 → P 2 → P 3 → (m : ℕ) → m < 4 → P m
of_each P a b c d zero h = a
of_each P a b c d (suc zero) h = b
of_each P a b c d (suc (suc zero)) h = c
of_each P a b c d (suc (suc (suc zero))) h = d
of_each P a b c d (suc (suc (suc (suc m)))) h = let z : ⊥ = omega arith in absurd z

-- number m of a cell is in column m, and is found there
in_its_column : (s : ℕ → Cell) (i m : ℕ) → m < 4 → get_or (as_list (s i)) m (pos 0) ≡ column (columns_of s) m i
in_its_column s i = of_each (λ m. get_or (as_list (s i)) m (pos 0) ≡ column (columns_of s) m i) refl refl refl refl

shown : (n : ℕ) (t : List ℤ) (i m : ℕ) → m < 4 → in_column n t m i ≡ get_or (as_list (cell_in n t i)) m (pos 0)
shown n t i = of_each (λ m. in_column n t m i ≡ get_or (as_list (cell_in n t i)) m (pos 0)) refl refl refl refl

module _ (n : ℕ) where
  pub length_table : (s : ℕ → Cell) → length (table_of n s) ≡ 4 * n
  unfolding table_of
  length_table s = length_columns n (columns_of s)

  -- the table shows the cells again,
  pub cell_in_table : (s : ℕ → Cell) (k : ℕ) → k < n → cell_in n (table_of n s) k ≡ s k
  unfolding table_of
  cell_in_table s k l =
      let a = columns_show n (columns_of s) 0 k (lit< tt) l in let b = columns_show n (columns_of s) 1 k (lit< tt) l in
      let c = columns_show n (columns_of s) 2 k (lit< tt) l in let d = columns_show n (columns_of s) 3 k (lit< tt) l in
      λ j. record { e0 = a j; e1 = b j; q0 = c j; q1 = d j }

  -- and one that shows them is theirs; so a table of 4n numbers is that of its cells
  pub table_is : (t : List ℤ) (s : ℕ → Cell) → length t ≡ 4 * n → ((k : ℕ) → k < n → cell_in n t k ≡ s k) → t ≡ table_of n s
  unfolding table_of
  table_is t s e h = columns_are n (columns_of s) t e (λ m k b l.
      shown n t k m b ∙ ap (λ (x : Cell). get_or (as_list x) m (pos 0)) (h k l) ∙ in_its_column s k m b)

  pub table_cells : (t : List ℤ) → length t ≡ 4 * n → table_of n (cell_in n t) ≡ t
  table_cells t e = sym (table_is t (cell_in n t) e (λ k l. refl))

  -- states that agree below n have one table
  pub table_same : (s t : ℕ → Cell) → ((k : ℕ) → k < n → s k ≡ t k) → table_of n s ≡ table_of n t
  table_same s t h = table_is (table_of n s) t (length_table s) (λ k l. cell_in_table s k l ∙ h k l)

  -- what is so of each number of its cells is so of each of a table
  pub table_each : (s : ℕ → Cell) (P : ℤ → Type 0)
      → ((i : ℕ) → i < n → P (s i).e0 × P (s i).e1 × P (s i).q0 × P (s i).q1)
      → (j : ℕ) → j < 4 * n → P (get_or (table_of n s) j (pos 0))
  unfolding table_of
  table_each s P h j l = columns_each n (columns_of s) P (λ m k b i. let x = h k i in
      of_each (λ m. P (column (columns_of s) m k)) x.0 x.1 x.2 x.3 m b) j l

  pub length_put_cell : (t : List ℤ) (i : ℕ) (x : Cell) → length (put_cell n t i x) ≡ length t
  length_put_cell t i x = length_put n 0 t i (as_list x)

  pub cells_more : (s : ℕ → Cell) (t : List ℤ) (i : ℕ) → i < n → length t ≡ 4 * n → Stores n (columns_of s) t i
      → Stores n (columns_of s) (put_cell n t i (s i)) (i + 1)
  cells_more s t i l e old = stores_more n (columns_of s) t i (as_list (s i)) l e refl old (in_its_column s i)

  pub cells_all : (s : ℕ → Cell) (t : List ℤ) → length t ≡ 4 * n → Stores n (columns_of s) t n → t ≡ table_of n s
  unfolding table_of
  cells_all s t e h = columns_are n (columns_of s) t e h

-- ---- a list of four numbers is the list of its cell
pub of_four : (l : List ℤ) → length l ≡ 4 → l ≡ as_list (as_cell l)
unfolding table_of columns row
of_four l e = sym (table_cells 1 l e)
