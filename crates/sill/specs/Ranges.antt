-- What the functions of the step ask of one another: room in the tables, and ranges that keep every product within 64 bits.
use Rattle.std.specs.Prelude.{◌≡◌, false, List, ℕ, suc, ◌*◌, ◌≤◌, ◌<◌, get_or, length, ℤ, pos, ◌+ℤ◌, ◌≤ℤ◌, ◌<ℤ◌}
use Rattle.tables.specs.Pools.{Pool, pool_in}
use Rattle.rules.specs.Limits.{most_cells, highest_bed, longest_cell, longest_step, deepest, fullest}
use Rattle.rules.specs.Laws.Sizes.{Sound}
use Rattle.reach.specs.Ranges.{UpTo, widest, DryDepth}
use Rattle.sill_rules.specs.Refusals.{off_pool}
use Rattle.sill.specs.declared.rows.Call.{Call}
use Rattle.sill.specs.declared.rows.Row as cells
use Rattle.sill.specs.declared.rows.FaceRow as faces
use Rattle.sill.specs.Rows.{left_of, right_of, no_row, no_face}

-- ---- sizes
-- a level, which is a depth over a bed
abbrev pub highest_level : ℤ
highest_level = deepest +ℤ highest_bed

-- what is kept of a face
abbrev pub most_volume : ℤ
most_volume = pos 210696667136

abbrev pub most_square : ℤ
most_square = pos 68719476736

abbrev pub most_advection : ℤ
most_advection = pos 1646067712

-- E; and what it moves a discharge by
abbrev pub most_pressure : ℤ
most_pressure = pos 137438953472

abbrev pub most_thrust : ℤ
most_thrust = pos 674138066780

-- ---- the numbers of a call that passed checks 1 and 2
pub record Numbers (c : Call) : Type 0 where
  pub some : 0 < c.n
  pub most : c.n ≤ most_cells
  pub dx_pos : pos 0 <ℤ c.dx
  pub dx_in : UpTo longest_cell c.dx
  pub dt_pos : pos 0 ≤ℤ c.dt
  pub dt_in : UpTo longest_step c.dt
  pub dry : DryDepth c.dry

-- ---- cells
-- as no table and no stage holds it larger
pub record Wide (x : Pool) : Type 0 where
  pub e : UpTo widest x.e
  pub q : UpTo widest x.q

-- the beds of n cells that passed check 3
abbrev pub Grounds : List ℤ → ℕ → Type 0
Grounds bed n = (i : ℕ) → i < n → UpTo highest_bed (get_or bed i (pos 0))

-- a cell in range over its bed z
pub record Inside (z : ℤ) (x : Pool) : Type 0 where
  pub grounded : UpTo highest_bed z
  pub range : off_pool z x ≡ false

-- the cells of a lent state, and their friction, that passed checks 5 and 4
abbrev pub Ranged : List ℤ → ℕ → List ℤ → Type 0
Ranged bed n state = (i : ℕ) → i < n → Inside (get_or bed i (pos 0)) (pool_in n state i)

abbrev pub Smooth : List ℕ → ℕ → Type 0
Smooth friction n = (i : ℕ) → i < n → get_or friction i 0 ≤ 200

-- the lent tables that passed check 1
pub record Lengths (c : Call) (state next bed : List ℤ) (friction : List ℕ) : Type 0 where
  pub state_is : length state ≡ 2 * c.n
  pub next_is : length next ≡ 2 * c.n
  pub bed_is : length bed ≡ c.n
  pub friction_is : length friction ≡ c.n

-- the row of a cell in range, and the rows of n cells
pub record Row (x : cells.Row) : Type 0 where
  pub e : UpTo highest_level x.level
  pub q : UpTo fullest x.discharge
  pub left : Sound (left_of x)
  pub right : Sound (right_of x)

abbrev pub Rows : List cells.Row → ℕ → Type 0
Rows b n = (i : ℕ) → i < n → Row (get_or b i no_row)

-- ---- the row of a face, and the rows of the faces 0 to n
pub record FaceRow (l : faces.FaceRow) : Type 0 where
  pub vol : UpTo most_volume l.volume
  pub K_least : pos 0 ≤ℤ l.pressure
  pub K : l.pressure ≤ℤ most_square
  pub A : UpTo most_advection l.advection

abbrev pub FaceRows : List faces.FaceRow → ℕ → Type 0
FaceRows f n = (i : ℕ) → i < suc n → FaceRow (get_or f i no_face)

-- ---- a cell whose numbers fit the lent i32 table
pub record Fits (x : Pool) : Type 0 where
  pub e : UpTo highest_level x.e
  pub q : UpTo fullest x.q
