-- To be believed. The step over a stepped bed: friction, and one stage, finished by its drying. The letters V, E, K and A are those of the
-- scope document and of E10.
use Rattle.std.specs.Prelude.{cond, ℕ, ℤ, pos, ◌+ℤ◌, ◌-ℤ◌, ◌*ℤ◌}
use Rattle.std.specs.Int.Signed.{quot_z}
use Rattle.tables.specs.Pools.{Pool}
use Rattle.rules.specs.Face.{Flux}
use Rattle.rules.specs.Ends.{outer}
use Rattle.rules.specs.Friction.{after_friction}
use Rattle.rules.specs.Shown.{Shown, cross_right, cross_at, volume}
use Rattle.sill_rules.specs.Reach.{Reach, Call, State, depth, shallow, hl, hr, at_left, at_right}

-- ---- friction, by the cell's own depth and with its own value f
unfoldable pub rubbed_pool : ℤ → ℤ → ℤ → ℤ → Pool → Pool
rubbed_pool dt d f z x = record { e = x.e; q = after_friction dt d f (depth z x) x.q x.q }

unfoldable pub rubbed : Reach → Call → State → State
rubbed r c s i = rubbed_pool c.dt c.dry (c.rough i) (r.bed i) (s i)

-- ---- faces
-- the row that they see; the outer side of an end is taken from the inner
abbrev pub shown : Reach → Call → State → Shown
shown r c s = record {
  n = r.n;
  face = r.face;
  left = λ x. r.face (outer c.left x) x;
  right = λ x. r.face x (outer c.right x);
  to_left = at_left r c s;
  to_right = at_right r c s;
}

-- the face right of cell i, and the face at place i of 0 to n
abbrev pub face_right : Reach → Call → State → ℕ → Flux
face_right r c s i = cross_right (shown r c s) i

abbrev pub face_at : Reach → Call → State → ℕ → Flux
face_at r c s i = cross_at (shown r c s) i

-- ---- the stage
-- E: the pressure at the faces l and f beyond that of the cell's reconstructed depths a and b there
unfoldable pub push : ℤ → ℤ → Flux → Flux → ℤ
push a b l f = (l.K -ℤ a *ℤ a) -ℤ (f.K -ℤ b *ℤ b)

-- a cell after the stage, with those depths, between the flux l at its left face and f at its right
unfoldable pub update : ℤ → ℤ → ℤ → ℤ → Pool → Flux → Flux → Pool
update dx dt a b x l f = record {
  e = x.e +ℤ volume dx dt l -ℤ volume dx dt f;
  q = x.q +ℤ quot_z ((l.A -ℤ f.A) *ℤ dt) dx +ℤ quot_z (pos 981 *ℤ push a b l f *ℤ dt) (pos 819200 *ℤ dx);
}

unfoldable pub stage : Reach → Call → State → State
stage r c s i = update r.dx c.dt (hl r s i) (hr r s i) (s i) (face_at r c s i) (face_right r c s i)

-- where the new depth is at most the dry depth d, the discharge becomes 0
unfoldable pub dried_pool : ℤ → ℤ → Pool → Pool
dried_pool d z x = record { e = x.e; q = cond (shallow d z x) (pos 0) x.q }

unfoldable pub dried : Reach → Call → State → State
dried r c s i = dried_pool c.dry (r.bed i) (s i)

-- the next state; and V at each face, of which those at the two ends are the volumes
unfoldable pub next : Reach → Call → State → State
next r c s = dried r c (stage r c (rubbed r c s))

unfoldable pub carry : Reach → Call → State → ℕ → ℤ
carry r c s i = volume r.dx c.dt (face_at r c (rubbed r c s) i)
