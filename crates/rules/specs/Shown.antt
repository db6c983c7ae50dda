-- To be believed. A row of cells as its faces see it: the sides that the cells show, the rule between two of them, and what crosses the
-- two ends.
-- Nothing here knows what a cell holds or how it comes to show a side. The letter V is the scope document's.
use Rattle.std.specs.Prelude.{cond, ℕ, zero, suc, eqb, ℤ, ◌*ℤ◌}
use Rattle.std.specs.Int.Signed.{quot_z}
use Rattle.rules.specs.Face.{Side, Flux}

pub record Shown : Type 0 where
  -- cells
  pub n : ℕ
  -- what crosses an inner face, and each end beside the side that stands there
  pub face : Side → Side → Flux
  pub left : Side → Flux
  pub right : Side → Flux
  -- the side that cell i shows to its left and to its right face; only cells below n count
  pub to_left : ℕ → Side
  pub to_right : ℕ → Side

-- what crosses the face right of cell i, and the face at place i of 0 to n
unfoldable pub cross_right : Shown → ℕ → Flux
cross_right w i = cond (eqb (suc i) w.n) (w.right (w.to_right i)) (w.face (w.to_right i) (w.to_left (suc i)))

unfoldable pub cross_at : Shown → ℕ → Flux
cross_at w zero = w.left (w.to_left zero)
cross_at w (suc i) = cross_right w i

-- V = F·dt/dx: what a face carries in one stage, in depths over one cell
unfoldable pub volume : ℤ → ℤ → Flux → ℤ
volume dx dt f = quot_z (f.F *ℤ dt) dx
