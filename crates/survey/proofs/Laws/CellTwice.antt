-- A cell turned twice is the cell itself.
-- Assumes nothing.
use Rattle.std.specs.Prelude.{◌≡◌}
use Rattle.std.proofs.Math.Path.{refl}
use Rattle.std.proofs.Math.IntN.{neg_ℤ-neg_ℤ}
use Rattle.tables.specs.Cells.{Cell}
use Rattle.survey.specs.Turned.{turned_cell}

pub cell_is : (x y : Cell) → x.e0 ≡ y.e0 → x.e1 ≡ y.e1 → x.q0 ≡ y.q0 → x.q1 ≡ y.q1 → x ≡ y
cell_is x y a b c d = λ m. record { e0 = a m; e1 = b m; q0 = c m; q1 = d m }

pub cell_twice : (x : Cell) → turned_cell (turned_cell x) ≡ x
cell_twice x = cell_is (turned_cell (turned_cell x)) x refl (neg_ℤ-neg_ℤ x.e1) (neg_ℤ-neg_ℤ x.q0) refl
