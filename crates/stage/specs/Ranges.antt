-- To be believed: `most_volume`.
-- What the functions of a stage ask of one another: room in the tables, and ranges that keep every product within 64 bits.
use Rattle.std.specs.Prelude.{◌≡◌, false, List, ℕ, suc, ◌+◌, ◌≤◌, ◌<◌, length, get_or, ℤ, pos, ◌+ℤ◌, ◌-ℤ◌, ◌≤ℤ◌}
use Rattle.tables.specs.Cells.{Cell}
use Rattle.rules.specs.Limits.{most_cells, highest_bed, deepest, fullest}
use Rattle.rules.specs.Reach as rules
use Rattle.rules.specs.Refusals.{off_cell, fast_cell}
use Rattle.rules.specs.Reach.{bed_at}
use Rattle.reach.specs.declared.Reach.{Reach}
use Rattle.reach.specs.declared.Call.{Call}
use Rattle.reach.specs.Ranges.{UpTo, widest, Numbers, Ground}
use Rattle.stage.specs.declared.rows.FaceRow.{FaceRow}
use Rattle.stage.specs.Rows.{no_row}

-- ---- sizes, each the least round number that its proof gives
-- a level, which is a depth over a bed, and its slope
abbrev pub highest_level : ℤ
highest_level = deepest +ℤ highest_bed

abbrev pub steepest_level : ℤ
steepest_level = pos 1179648

-- a level as a stage leaves it, 2^41
abbrev pub widest_level : ℤ
widest_level = pos 2199023255552

-- the largest speed of a discharge over water that is not dry, and so 2 deep, of which some are refused
abbrev pub thin_fastest : ℤ
thin_fastest = pos 17179869184

-- what crosses a face
abbrev pub most_mass : ℤ
most_mass = pos 51439616

abbrev pub most_square : ℤ
most_square = pos 68719476736

abbrev pub most_advection : ℤ
most_advection = pos 1646067712

abbrev pub most_volume : ℤ
most_volume = pos 210696667136

-- the momentum of a cell's Gauss points; what a slope changes by, before it is taken thrice; and the pressures E and D
abbrev pub most_momentum : ℤ
most_momentum = pos 1073741824

abbrev pub most_change : ℤ
most_change = pos 4365877248

abbrev pub most_pressure : ℤ
most_pressure = pos 2000000000000

-- what a slope is then changed by, and what such a pressure moves a discharge by
abbrev pub most_turn : ℤ
most_turn = pos 53647899623424

abbrev pub most_thrust : ℤ
most_thrust = pos 9810000000000

-- a depth that may be worked with
abbrev pub DepthIn : ℤ → Type 0
DepthIn h = (pos 0 ≤ℤ h) × (h ≤ℤ deepest)

-- ---- tables
-- a table has room for the cells of a reach, or for its faces
abbrev pub Room : {A : Type 0} → Reach → List A → Type 0
Room reach t = reach.n ≤ length t

abbrev pub FaceRoom : {A : Type 0} → Reach → List A → Type 0
FaceRoom reach f = reach.n < length f

-- a reach and a call that passed checks 1 and 2
pub record InOrder (reach : Reach) (call : Call) (bed : List ℤ) : Type 0 where
  pub some : 0 < reach.n
  pub most : reach.n ≤ most_cells
  pub beds : length bed ≡ reach.n + 1
  pub numbers : Numbers reach call

-- ---- cells
-- a cell in range over its bed, and a state of n cells
pub record Inside (b : rules.Bed) (x : Cell) : Type 0 where
  pub grounded : Ground b
  pub range : off_cell b x ≡ false

abbrev pub Ranged : List ℤ → ℕ → rules.State → Type 0
Ranged bed n s = (i : ℕ) → i < n → Inside (bed_at bed i) (s i)

-- a cell as a stage leaves it before it is finished
pub record Small (x : Cell) : Type 0 where
  pub e0 : UpTo widest_level x.e0
  pub e1 : UpTo widest_level x.e1
  pub q0 : UpTo widest x.q0
  pub q1 : UpTo widest x.q1

abbrev pub Smalls : ℕ → rules.State → Type 0
Smalls n s = (i : ℕ) → i < n → Small (s i)

-- what friction asks of a cell: its value in its list, and its speed checked at the dry depth
pub record Slow (dry : ℤ) (f : ℕ) (b : rules.Bed) (x : Cell) : Type 0 where
  pub rough : f ≤ 200
  pub speed : fast_cell dry b x ≡ false

abbrev pub Slows : ℤ → List ℕ → List ℤ → ℕ → rules.State → Type 0
Slows dry friction bed n s = (i : ℕ) → i < n → Slow dry (get_or friction i 0) (bed_at bed i) (s i)

-- two places of a cell, one on each side of its middle: the depths m - d and m + d, and the discharges p - q and p + q
pub record Around (m d p q : ℤ) : Type 0 where
  pub left : pos 0 ≤ℤ (m -ℤ d)
  pub left_most : (m -ℤ d) ≤ℤ deepest
  pub right : pos 0 ≤ℤ (m +ℤ d)
  pub right_most : (m +ℤ d) ≤ℤ deepest
  pub ql : UpTo fullest (p -ℤ q)
  pub qr : UpTo fullest (p +ℤ q)

-- ---- faces
-- the row of a face, and the rows of the faces 0 to n
pub record Row (l : FaceRow) : Type 0 where
  pub F : UpTo most_mass l.mass
  pub K : UpTo most_square l.pressure
  pub A : UpTo most_advection l.advection
  pub vol : UpTo most_volume l.volume

abbrev pub FaceRows : List FaceRow → ℕ → Type 0
FaceRows f n = (i : ℕ) → i < suc n → Row (get_or f i no_row)

-- the momenta of n cells
abbrev pub Momenta : List ℤ → ℕ → Type 0
Momenta g n = (i : ℕ) → i < n → UpTo most_momentum (get_or g i (pos 0))

-- what E and D are formed of: a mean depth m with the slope s, over a bed from zl to zr, and the pressures kl and kr
pub record Pressed (m s zl zr kl kr : ℤ) : Type 0 where
  pub mean : UpTo deepest m
  pub slope : UpTo (pos 131072) s
  pub zl_in : UpTo highest_bed zl
  pub zr_in : UpTo highest_bed zr
  pub kl_in : UpTo most_square kl
  pub kr_in : UpTo most_square kr
