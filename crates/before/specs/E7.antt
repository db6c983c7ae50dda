-- To be believed. The step before E7: a lent state had its cells one after another, the four numbers of each together.
-- All else is as before E13.
use Rattle.std.specs.Prelude.{◌≡◌, cond, List, [], ◌∷◌, ℕ, ◌+◌, ◌*◌, eqb, length, get_or, ℤ, pos}
use Rattle.tables.specs.Rows.{row}
use Rattle.tables.specs.Cells.{Cell, cell_in, table_of}
use Rattle.rules.specs.Reach.{State}
use Rattle.rules.specs.Step.{carry, next}
use Rattle.rules.specs.Refusals.{refusal}
use Rattle.rules.specs.Lent.{Lent, cells_of, reach_of, call_of, misfits}
use Rattle.before.specs.E13.{Outcome, refused, accepted}

-- cell k in such a table
abbrev pub cell_at : List ℤ → ℕ → Cell
cell_at t k = record {
  e0 = get_or t (4 * k) (pos 0);
  e1 = get_or t (4 * k + 1) (pos 0);
  q0 = get_or t (4 * k + 2) (pos 0);
  q1 = get_or t (4 * k + 3) (pos 0);
}

-- the table of a row of cells
unfoldable pub flat : List Cell → List ℤ
flat [] = []
flat (c ∷ l) = c.e0 ∷ c.e1 ∷ c.q0 ∷ c.q1 ∷ flat l

abbrev pub state_of : Lent → State
state_of a = cell_at a.now

-- the number of the refusal, or 0
unfoldable pub number : Lent → ℕ
number a = cond (misfits a) 1 (refusal (reach_of a) (call_of a) (state_of a))

-- that number; or the next table and W at face 0 and at face n
unfoldable pub step_of : Lent → Outcome
step_of a = let n = cells_of a in let r = reach_of a in let c = call_of a in let s = state_of a in
    cond (eqb (number a) 0) (accepted (flat (row n (next r c s))) (carry r c s 0) (carry r c s n)) (refused (number a))

-- ---- rows and columns exchanged
-- a table of 4n numbers rearranged; one of another length stays as it is
unfoldable pub rearranged : ℕ → (List ℤ → List ℤ) → List ℤ → List ℤ
rearranged n f t = cond (eqb (length t) (4 * n)) (f t) t

-- a table of n cells into columns, and one in columns into cells
abbrev pub into_columns : ℕ → List ℤ → List ℤ
into_columns n t = rearranged n (λ s. table_of n (cell_at s)) t

abbrev pub into_cells : ℕ → List ℤ → List ℤ
into_cells n t = rearranged n (λ s. flat (row n (cell_in n s))) t

-- t is the columns of a table of n cells, and of no other
pub record ColumnsOfOne (n : ℕ) (t : List ℤ) : Type 0 where
  pub cells : List ℤ
  pub size : length cells ≡ 4 * n
  pub columns : t ≡ table_of n (cell_at cells)
  pub only : (s : List ℤ) → length s ≡ 4 * n → t ≡ table_of n (cell_at s) → s ≡ cells

-- a call that is lent another state
abbrev pub lending : List ℤ → Lent → Lent
lending t a = record {
  now = t;
  room = a.room;
  bed = a.bed;
  friction = a.friction;
  dx = a.dx;
  dt = a.dt;
  jump = a.jump;
  dry = a.dry;
  left = a.left;
  right = a.right;
}

-- the call in columns, and the call in cells
abbrev pub lent_in_columns : Lent → Lent
lent_in_columns a = lending (into_columns (cells_of a) a.now) a

abbrev pub lent_in_cells : Lent → Lent
lent_in_cells a = lending (into_cells (cells_of a) a.now) a

-- an outcome with its table in columns
unfoldable pub given_in_columns : ℕ → Outcome → Outcome
given_in_columns n (refused k) = refused k
given_in_columns n (accepted t w v) = accepted (into_columns n t) w v
