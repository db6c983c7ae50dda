-- To be believed. A reach and a call on it, turned round: what another office would lend that surveyed the reach from its other end.
use Rattle.std.specs.Prelude.{List, reverse, ℕ, suc, ◌-◌, ℤ, neg_ℤ}
use Rattle.tables.specs.Cells.{Cell, cell_in, table_of}
use Rattle.rules.specs.Lent.{Lent, cells_of}

-- a cell: what rises there falls here, and what runs rightward there runs leftward here
abbrev pub turned_cell : Cell → Cell
turned_cell x = record { e0 = x.e0; e1 = neg_ℤ x.e1; q0 = neg_ℤ x.q0; q1 = x.q1 }

-- the table of a state of n cells, from the last to the first
unfoldable pub turned_table : ℕ → List ℤ → List ℤ
turned_table n t = table_of n (λ i. turned_cell (cell_in n t (n - suc i)))

-- a call: bed and friction too from the last entry to the first, and the ends exchanged
abbrev pub turned_call : Lent → Lent
turned_call l = record {
  now = turned_table (cells_of l) l.now;
  room = l.room;
  bed = reverse l.bed;
  friction = reverse l.friction;
  dx = l.dx;
  dt = l.dt;
  jump = l.jump;
  dry = l.dry;
  left = l.right;
  right = l.left;
}
