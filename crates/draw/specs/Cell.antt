-- To be believed. A cell over a sloping bed, and the table with it.
use Rattle.std.specs.Prelude.{ℕ, List, ◌∷◌, [], ℤ, set, fold}
use Rattle.std.specs.List.{enumerate_from}
use Rattle.draw.specs.declared.cell.Cell.{Cell}
use Rattle.draw.specs.Numbers.{plus, minus, times}
use Rattle.draw.specs.Tables.{narrow}

unfoldable pub over : ℕ → ℕ → ℕ → ℕ → ℕ → ℕ → Cell
over zl zr h0 h1 q0 q1 = record { e0 = plus h0 (plus zl zr); e1 = plus h1 (minus zr zl); q0 = q0; q1 = q1 }

-- the place of cell i of n in a column
abbrev pub place : ℕ → ℕ → ℕ → ℕ
place n column i = plus (times column n) i

-- the table with p.1 put into column p.0
abbrev pub put_number : ℕ → ℕ → List ℤ → ℕ × ℕ → List ℤ
put_number n i t p = set t (place n p.0 i) (narrow p.1)

-- with the numbers of a cell put, one into each column
unfoldable pub put_cell : List ℤ → ℕ → ℕ → Cell → List ℤ
put_cell t n i x = fold (put_number n i) t (enumerate_from 0 (x.e0 ∷ x.e1 ∷ x.q0 ∷ x.q1 ∷ []))
