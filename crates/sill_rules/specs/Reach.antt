-- To be believed. The reach over a stepped bed: what stays from step to step, what a call may change, one cell over its bed, and the sides
-- that it shows, after the hydrostatic reconstruction. The letters hl and hr are those of E10.
use Rattle.std.specs.Prelude.{Bool, cond, ℕ, zero, suc, eqb, ℤ, pos, ◌-ℤ◌}
use Rattle.std.specs.Int.Signed.{le_z}
use Rattle.whole.specs.Choice.{max_z}
use Rattle.tables.specs.Pools.{Pool}
use Rattle.rules.specs.Face.{Side, Flux, speed}

-- what stays: n cells of length dx, the bed of each cell, and the rule for what crosses a face (of which only `Lawful` is used)
pub record Reach : Type 0 where
  pub n : ℕ
  pub dx : ℤ
  pub bed : ℕ → ℤ
  pub face : Side → Side → Flux

-- what may differ: time step, dry depth, friction of each cell, and the kinds of the two ends, 0 a wall or 1 open
pub record Call : Type 0 where
  pub dt : ℤ
  pub dry : ℤ
  pub rough : ℕ → ℤ
  pub left : ℕ
  pub right : ℕ

-- a state has a cell at each place, with its level and its discharge; only those below n count
abbrev pub State : Type 0
State = ℕ → Pool

-- the depth of a cell over its own bed z; it is at most the dry depth d
unfoldable pub depth : ℤ → Pool → ℤ
depth z x = x.e -ℤ z

abbrev pub shallow : ℤ → ℤ → Pool → Bool
shallow d z x = le_z (depth z x) d

-- the speed of a cell, which is that of its own depth
unfoldable pub pace : ℤ → ℤ → Pool → ℤ
pace d z x = speed d x.q (depth z x)

-- ---- the reconstruction
-- of the beds of cells i and i + 1 the higher counts at the face between them
unfoldable pub higher : Reach → ℕ → ℤ
higher r i = max_z (r.bed i) (r.bed (suc i))

-- the bed that counts at the left and at the right face of cell i: at an end the cell's own
unfoldable pub crest_left : Reach → ℕ → ℤ
crest_left r zero = r.bed zero
crest_left r (suc i) = higher r i

unfoldable pub crest_right : Reach → ℕ → ℤ
crest_right r i = cond (eqb (suc i) r.n) (r.bed i) (higher r i)

-- the depth of a cell over a crest z: its level less that bed, or nought
unfoldable pub over : ℤ → Pool → ℤ
over z x = max_z (pos 0) (x.e -ℤ z)

-- hl and hr of cell i, its reconstructed depths
abbrev pub hl : Reach → State → ℕ → ℤ
hl r s i = over (crest_left r i) (s i)

abbrev pub hr : Reach → State → ℕ → ℤ
hr r s i = over (crest_right r i) (s i)

-- ---- the side that cell i shows to its left and to its right face
abbrev pub at_left : Reach → Call → State → ℕ → Side
at_left r c s i = record { h = hl r s i; u = pace c.dry (r.bed i) (s i) }

abbrev pub at_right : Reach → Call → State → ℕ → Side
at_right r c s i = record { h = hr r s i; u = pace c.dry (r.bed i) (s i) }
