-- The rows that a stage keeps, what travels between them, and what is worked out of them, as the rules' records.
use Rattle.std.specs.Prelude.{◌≡◌, Bool, false, ◌||◌, List, [], ◌∷◌, ℕ, suc, ◌-◌, ◌<◌, get_or, ℤ, pos, ◌+ℤ◌, ◌-ℤ◌, ◌*ℤ◌}
use Rattle.std.specs.Int.Signed.{quot_z, lt_z}
use Rattle.tables.specs.Cells.{Cell}
use Rattle.rules.specs.Face.{speed, face}
use Rattle.rules.specs.Face as rules
use Rattle.rules.specs.Shown.{Shown, cross_at, volume}
use Rattle.rules.specs.Ends.{left_end, right_end}
use Rattle.rules.specs.Reach.{State, Bed, h0, h1, side_l, side_r, bed_at}
use Rattle.rules.specs.Stage.{carried, flow_before, flow_behind, depth_before, depth_behind, gauss}
use Rattle.rules.specs.Step.{half, rubbed_cell, joined_cell}
use Rattle.rules.specs.Refusals.{fast_side, fast_inflow, fast_points}
use Rattle.rules.specs.Laws.Sizes.{Sound}
use Rattle.reach.specs.declared.Reach.{Reach}
use Rattle.reach.specs.declared.Call.{Call}
use Rattle.reach.specs.Told.{end_in}
use Rattle.stage.specs.declared.rows.FaceRow.{FaceRow}

-- ---- sides: depth and speed at the left face, depth and speed at the right
abbrev pub side_row : rules.Side → rules.Side → List ℤ
side_row l r = l.h ∷ l.u ∷ r.h ∷ r.u ∷ []

-- the two sides of a row
abbrev pub left_of : List ℤ → rules.Side
left_of l = record { h = get_or l 0 (pos 0); u = get_or l 1 (pos 0) }

abbrev pub right_of : List ℤ → rules.Side
right_of l = record { h = get_or l 2 (pos 0); u = get_or l 3 (pos 0) }

-- at the dry depth dry, depth and speed at a place of depth h and discharge q: at a face, the side there
abbrev pub side_by : ℤ → ℤ → ℤ → rules.Side
side_by dry h q = record { h = h; u = speed dry q h }

-- those of cell i, of a table of rows
abbrev pub left_in : List (List ℤ) → ℕ → rules.Side
left_in d i = left_of (get_or d i [])

abbrev pub right_in : List (List ℤ) → ℕ → rules.Side
right_in d i = right_of (get_or d i [])

-- sides within the limits, in a table of n cells
abbrev pub Sounds : List (List ℤ) → ℕ → Type 0
Sounds d n = (i : ℕ) → i < n → Sound (left_in d i) × Sound (right_in d i)

unfoldable pub sides_at : ℤ → List ℤ → State → ℕ → List ℤ
sides_at dry bed s i = side_row (side_l dry (bed_at bed i) (s i)) (side_r dry (bed_at bed i) (s i))

-- a cell with a side that is too fast
unfoldable pub fast_sides : ℤ → List ℤ → State → ℕ → Bool
fast_sides dry bed s i = fast_side (side_l dry (bed_at bed i) (s i)) || fast_side (side_r dry (bed_at bed i) (s i))

-- an inflow that is too fast: at the left end, at the right, at either
abbrev pub fast_left : Reach → Call → List (List ℤ) → Bool
fast_left r c d = fast_inflow c.dry (end_in c.left) (left_in d 0)

abbrev pub fast_right : Reach → Call → List (List ℤ) → Bool
fast_right r c d = fast_inflow c.dry (end_in c.right) (right_in d (r.n - 1))

unfoldable pub fast_ends : Reach → Call → List (List ℤ) → Bool
fast_ends r c d = fast_left r c d || fast_right r c d

abbrev pub SlowEnds : Reach → Call → List (List ℤ) → Type 0
SlowEnds r c d = fast_ends r c d ≡ false

-- ---- Gauss points: their two speeds, and g1 + g2
-- by the depth and the discharge before the middle, and those behind it
abbrev pub points_by : ℤ → ℤ → ℤ → ℤ → ℤ → List ℤ
points_by dry h q h' q' = speed dry q h ∷ speed dry q' h' ∷ (carried dry q h +ℤ carried dry q' h') ∷ []

unfoldable pub point_row : ℤ → Bed → Cell → List ℤ
point_row dry b x = speed dry (flow_before x) (depth_before b x) ∷ speed dry (flow_behind x) (depth_behind b x) ∷ gauss dry b x ∷ []

-- those of cell i
abbrev pub fast_points_at : ℤ → List ℤ → State → ℕ → Bool
fast_points_at dry bed s i = fast_points dry (bed_at bed i) (s i)

abbrev pub momentum_at : ℤ → List ℤ → State → ℕ → ℤ
momentum_at dry bed s i = gauss dry (bed_at bed i) (s i)

-- ---- faces: mass, pressure, advection and top speed; then the row that is kept, with the volume
abbrev pub face_row : ℤ → ℤ → rules.Flux → FaceRow
face_row dx dt x = record { mass = x.F; pressure = x.K; advection = x.A; volume = volume dx dt x }

-- what is read past the end of a table of them
abbrev pub no_row : FaceRow
no_row = record { mass = pos 0; pressure = pos 0; advection = pos 0; volume = pos 0 }

-- a face at which the step is too long
unfoldable pub long_flux : ℤ → ℤ → rules.Flux → Bool
long_flux dx dt x = lt_z (pos 4096 *ℤ dx) (pos 2 *ℤ dt *ℤ x.S)

-- the row that a table of sides shows its faces, and what crosses face i of 0 to n
abbrev pub shown_in : Reach → Call → List (List ℤ) → Shown
shown_in r c d = record {
  n = r.n;
  face = face;
  left = left_end face c.dry (end_in c.left);
  right = right_end face c.dry (end_in c.right);
  to_left = left_in d;
  to_right = right_in d;
}

abbrev pub cross_in : Reach → Call → List (List ℤ) → ℕ → rules.Flux
cross_in r c d i = cross_at (shown_in r c d) i

abbrev pub long_at : Reach → Call → List (List ℤ) → ℕ → Bool
long_at r c d i = long_flux r.dx c.dt (cross_in r c d i)

abbrev pub face_row_at : Reach → Call → List (List ℤ) → ℕ → FaceRow
face_row_at r c d i = face_row r.dx c.dt (cross_in r c d i)

-- ---- a cell after the stage, from the rows l and f of its faces and its momentum g
-- dt/dx of three times a sum, and how a pressure moves a discharge
unfoldable pub slope_of : ℤ → ℤ → ℤ → ℤ
slope_of a dx dt = quot_z (pos 3 *ℤ a *ℤ dt) dx

unfoldable pub thrust : ℤ → ℤ → ℤ → ℤ
thrust e dx dt = quot_z (pos 981 *ℤ e *ℤ dt) (pos 819200 *ℤ dx)

-- E and D, of a mean depth m with the slope s over a bed from zl to zr, between faces of pressure kl and kr
unfoldable pub push_of : ℤ → ℤ → ℤ → ℤ → ℤ → ℤ → ℤ
push_of m s zl zr kl kr = kl -ℤ kr -ℤ (m +ℤ s +ℤ (m -ℤ s)) *ℤ (zr -ℤ zl)

unfoldable pub tilt_of : ℤ → ℤ → ℤ → ℤ → ℤ → ℤ → ℤ
tilt_of m s zl zr kl kr =
    pos 3 *ℤ kr +ℤ pos 3 *ℤ kl -ℤ pos 6 *ℤ (m *ℤ m) -ℤ pos 2 *ℤ (s *ℤ s) +ℤ pos 4 *ℤ (s *ℤ quot_z (zr -ℤ zl) (pos 2))

abbrev pub push_by : Bed → Cell → ℤ → ℤ → ℤ
push_by b x kl kr = push_of (h0 b x) (h1 b x) b.zl b.zr kl kr

abbrev pub tilt_by : Bed → Cell → ℤ → ℤ → ℤ
tilt_by b x kl kr = tilt_of (h0 b x) (h1 b x) b.zl b.zr kl kr

unfoldable pub update_by : ℤ → ℤ → Bed → Cell → FaceRow → FaceRow → ℤ → Cell
update_by dx dt b x l f g = record {
  e0 = x.e0 +ℤ l.volume -ℤ f.volume;
  e1 = x.e1 -ℤ slope_of (f.mass +ℤ l.mass -ℤ pos 2 *ℤ x.q0) dx dt;
  q0 = x.q0 +ℤ quot_z ((l.advection -ℤ f.advection) *ℤ dt) dx +ℤ thrust (push_by b x l.pressure f.pressure) dx dt;
  q1 = x.q1 -ℤ slope_of (f.advection +ℤ l.advection -ℤ g) dx dt -ℤ thrust (tilt_by b x l.pressure f.pressure) dx dt;
}

-- cell i, of the tables
abbrev pub update_at : Reach → Call → List ℤ → State → List FaceRow → List ℤ → ℕ → Cell
update_at r c bed s f g i =
    update_by r.dx c.dt (bed_at bed i) (s i) (get_or f i no_row) (get_or f (suc i) no_row) (get_or g i (pos 0))

-- ---- the end of the step: W at face i, from its rows in the two stages, and cell i from its values after friction and after stage two
abbrev pub volume_at : List FaceRow → List FaceRow → ℕ → ℤ
volume_at f h i = half (get_or f i no_row).volume (get_or h i no_row).volume

abbrev pub join_at : State → State → List FaceRow → List FaceRow → ℕ → Cell
join_at a u f h i = joined_cell (a i) (u i) (volume_at f h i) (volume_at f h (suc i))

-- cell i of s after friction
abbrev pub rubbed_at : Call → List ℕ → List ℤ → State → ℕ → Cell
rubbed_at c friction bed s i = rubbed_cell c.dt c.dry (pos (get_or friction i 0)) (bed_at bed i) (s i)
