-- The rows that the step keeps, what travels between them, and what is worked out of them, as the rules' records.
use Rattle.std.specs.Prelude.{Bool, List, ℕ, suc, get_or, ℤ, pos, ◌+ℤ◌, ◌-ℤ◌, ◌*ℤ◌}
use Rattle.std.specs.Int.Signed.{quot_z}
use Rattle.tables.specs.Pools.{Pool}
use Rattle.rules.specs.Face.{face}
use Rattle.rules.specs.Face as faces
use Rattle.rules.specs.Ends.{outer}
use Rattle.rules.specs.Shown.{Shown, cross_at, volume}
use Rattle.rules.specs.Refusals.{is_long}
use Rattle.sill_rules.specs.Reach.{Reach, State, crest_left, crest_right, over, pace}
use Rattle.sill_rules.specs.Step.{dried_pool}
use Rattle.sill.specs.declared.rows.Call.{Call}
use Rattle.sill.specs.declared.rows.Row.{Row}
use Rattle.sill.specs.declared.rows.FaceRow.{FaceRow}
use Rattle.sill.specs.Told.{kind_of}

-- ---- a cell: its level and discharge, its depths over the two crests, and its speed at the dry depth d
abbrev pub row_by : Reach → ℤ → ℕ → Pool → Row
row_by r d i x = record {
  level = x.e;
  discharge = x.q;
  left_depth = over (crest_left r i) x;
  right_depth = over (crest_right r i) x;
  speed = pace d (r.bed i) x;
}

abbrev pub row_at : Reach → ℤ → State → ℕ → Row
row_at r d s i = row_by r d i (s i)

-- its two sides
abbrev pub left_of : Row → faces.Side
left_of x = record { h = x.left_depth; u = x.speed }

abbrev pub right_of : Row → faces.Side
right_of x = record { h = x.right_depth; u = x.speed }

-- what stands past the end of a table of them
abbrev pub no_row : Row
no_row = record { level = pos 0; discharge = pos 0; left_depth = pos 0; right_depth = pos 0; speed = pos 0 }

-- ---- faces: the row that is kept, with the volume in the place of the mass
abbrev pub face_row : ℤ → ℤ → faces.Flux → FaceRow
face_row dx dt x = record { volume = volume dx dt x; pressure = x.K; advection = x.A }

-- what stands past the end of a table of them
abbrev pub no_face : FaceRow
no_face = record { volume = pos 0; pressure = pos 0; advection = pos 0 }

-- the row that a table of cells shows its faces, and what crosses face i of 0 to n
abbrev pub shown_in : Call → List Row → Shown
shown_in c b = record {
  n = c.n;
  face = face;
  left = λ x. face (outer (kind_of c.left) x) x;
  right = λ x. face x (outer (kind_of c.right) x);
  to_left = λ i. left_of (get_or b i no_row);
  to_right = λ i. right_of (get_or b i no_row);
}

abbrev pub cross_in : Call → List Row → ℕ → faces.Flux
cross_in c b i = cross_at (shown_in c b) i

abbrev pub long_at : Call → List Row → ℕ → Bool
long_at c b i = is_long c.dx c.dt (cross_in c b i)

abbrev pub face_row_at : Call → List Row → ℕ → FaceRow
face_row_at c b i = face_row c.dx c.dt (cross_in c b i)

-- ---- a cell after the stage, from its row x and the rows l and f of its faces
unfoldable pub thrust : ℤ → ℤ → ℤ → ℤ
thrust e dx dt = quot_z (pos 981 *ℤ e *ℤ dt) (pos 819200 *ℤ dx)

-- E
unfoldable pub push_by : Row → FaceRow → FaceRow → ℤ
push_by x l f = let a = x.left_depth in let b = x.right_depth in (l.pressure -ℤ a *ℤ a) -ℤ (f.pressure -ℤ b *ℤ b)

unfoldable pub update_by : ℤ → ℤ → Row → FaceRow → FaceRow → Pool
update_by dx dt x l f = record {
  e = x.level +ℤ l.volume -ℤ f.volume;
  q = x.discharge +ℤ quot_z ((l.advection -ℤ f.advection) *ℤ dt) dx +ℤ thrust (push_by x l f) dx dt;
}

-- cell i of the tables, dried
abbrev pub end_at : Call → List ℤ → List Row → List FaceRow → ℕ → Pool
end_at c bed b f i =
    dried_pool c.dry (get_or bed i (pos 0)) (update_by c.dx c.dt (get_or b i no_row) (get_or f i no_face) (get_or f (suc i) no_face))
