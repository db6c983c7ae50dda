-- Turned round twice, a state and a call are as they were.
-- Assumes nothing.
use Rattle.std.specs.Prelude.{◌≡◌, false, List, ℕ, suc, ◌-◌, ◌*◌, length, ℤ, pos}
use Rattle.std.proofs.Common.{◌∙◌, ap, arith}
use Rattle.std.proofs.lemmas.List.{length-reverse}
use Rattle.tables.specs.Reversed.{reverse_twice}
use Rattle.tables.specs.Cells.{cell_in}
use Rattle.tables.proofs.Cells.{cell_in_table, table_cells, table_same}
use Rattle.rules.specs.Lent.{Lent, cells_of, misfits}
use Rattle.rules.proofs.Laws.Lengths.{fitted}
use Rattle.survey.specs.Turned.{turned_cell, turned_table, turned_call}
use Rattle.survey.proofs.Laws.CellTwice.{cell_twice}

pub table_twice : (n : ℕ) (t : List ℤ) → length t ≡ 4 * n → turned_table n (turned_table n t) ≡ t
unfolding turned_table
table_twice n t e = table_same n (λ i. turned_cell (cell_in n (turned_table n t) (n - suc i))) (cell_in n t)
    (λ i l. let j = n - suc i in let is : n - suc j ≡ i = omega arith in
    ap turned_cell (cell_in_table n (λ k. turned_cell (cell_in n t (n - suc k))) j (omega arith))
    ∙ cell_twice (cell_in n t (n - suc j)) ∙ ap (cell_in n t) is)
    ∙ table_cells n t e

pub call_twice : (l : Lent) → misfits l ≡ false → turned_call (turned_call l) ≡ l
call_twice l fit = λ m. record {
  now = now m;
  room = l.room;
  bed = reverse_twice (pos 0) l.bed m;
  friction = reverse_twice 0 l.friction m;
  dx = l.dx;
  dt = l.dt;
  jump = l.jump;
  dry = l.dry;
  left = l.left;
  right = l.right;
}
  where
    now : turned_table (cells_of (turned_call l)) (turned_table (cells_of l) l.now) ≡ l.now
    now = ap (λ (n : ℕ). turned_table n (turned_table (cells_of l) l.now)) (length-reverse l.friction)
        ∙ table_twice (cells_of l) l.now (fitted (length l.now) l.room (length l.bed) (cells_of l) fit).now
