-- To be believed. One stage: its faces and what they carry, and each cell after it. The letters E, D, g1 and g2 are the scope document's.
use Rattle.std.specs.Prelude.{ℕ, ℤ, pos, ◌+ℤ◌, ◌-ℤ◌, ◌*ℤ◌}
use Rattle.std.specs.Int.Signed.{quot_z}
use Rattle.tables.specs.Cells.{Cell}
use Rattle.rules.specs.Face.{Side, Flux, speed}
use Rattle.rules.specs.Shown.{Shown, cross_right, cross_at, volume}
use Rattle.rules.specs.Ends.{left_end, right_end}
use Rattle.rules.specs.Reach.{Reach, Call, State, Bed, under, z1, h0, h1, hl, hr, side_l, side_r}

-- ---- faces
-- the side that cell i shows to its left and right face
abbrev pub at_left : Reach → Call → State → ℕ → Side
at_left r c s i = side_l c.dry (under r i) (s i)

abbrev pub at_right : Reach → Call → State → ℕ → Side
at_right r c s i = side_r c.dry (under r i) (s i)

-- the row that its faces see
abbrev pub shown : Reach → Call → State → Shown
shown r c s = record {
  n = r.n;
  face = r.face;
  left = left_end r.face c.dry c.left;
  right = right_end r.face c.dry c.right;
  to_left = at_left r c s;
  to_right = at_right r c s;
}

-- the face right of cell i, and the face at place i of 0 to n
abbrev pub face_right : Reach → Call → State → ℕ → Flux
face_right r c s i = cross_right (shown r c s) i

abbrev pub face_at : Reach → Call → State → ℕ → Flux
face_at r c s i = cross_at (shown r c s) i

-- ---- the two Gauss points
-- the share of a slope there, 1/√3
unfoldable pub share : ℤ → ℤ
share x = quot_z (pos 37837 *ℤ x) (pos 65536)

-- depth and discharge at the point before the middle and at the one behind it
abbrev pub depth_before : Bed → Cell → ℤ
depth_before b x = h0 b x -ℤ share (h1 b x)

abbrev pub depth_behind : Bed → Cell → ℤ
depth_behind b x = h0 b x +ℤ share (h1 b x)

abbrev pub flow_before : Cell → ℤ
flow_before x = x.q0 -ℤ share x.q1

abbrev pub flow_behind : Cell → ℤ
flow_behind x = x.q0 +ℤ share x.q1

-- momentum carried at a point, at the dry depth d
unfoldable pub carried : ℤ → ℤ → ℤ → ℤ
carried d q h = quot_z (q *ℤ speed d q h) (pos 4096)

-- g1 + g2
unfoldable pub gauss : ℤ → Bed → Cell → ℤ
gauss d b x = carried d (flow_before x) (depth_before b x) +ℤ carried d (flow_behind x) (depth_behind b x)

-- ---- cells
-- E: the pressure at the faces against the bed, for the mean
unfoldable pub push : Bed → Cell → Flux → Flux → ℤ
push b x l f = l.K -ℤ f.K -ℤ (hr b x +ℤ hl b x) *ℤ (b.zr -ℤ b.zl)

-- D: the same for the slope
unfoldable pub tilt : Bed → Cell → Flux → Flux → ℤ
tilt b x l f = pos 3 *ℤ f.K +ℤ pos 3 *ℤ l.K -ℤ pos 6 *ℤ (h0 b x *ℤ h0 b x) -ℤ pos 2 *ℤ (h1 b x *ℤ h1 b x) +ℤ pos 4 *ℤ (h1 b x *ℤ z1 b)

-- a cell after the stage, between the flux l at its left face and f at its right
unfoldable pub update : ℤ → ℤ → ℤ → Bed → Cell → Flux → Flux → Cell
update dx dt d b x l f = record {
  e0 = x.e0 +ℤ volume dx dt l -ℤ volume dx dt f;
  e1 = x.e1 -ℤ quot_z (pos 3 *ℤ (f.F +ℤ l.F -ℤ pos 2 *ℤ x.q0) *ℤ dt) dx;
  q0 = x.q0 +ℤ quot_z ((l.A -ℤ f.A) *ℤ dt) dx +ℤ quot_z (pos 981 *ℤ push b x l f *ℤ dt) (pos 819200 *ℤ dx);
  q1 = x.q1 -ℤ quot_z (pos 3 *ℤ (f.A +ℤ l.A -ℤ gauss d b x) *ℤ dt) dx -ℤ quot_z (pos 981 *ℤ tilt b x l f *ℤ dt) (pos 819200 *ℤ dx);
}

unfoldable pub stage : Reach → Call → State → State
stage r c s i = update r.dx c.dt c.dry (under r i) (s i) (face_at r c s i) (face_right r c s i)
