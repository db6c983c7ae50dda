-- The rows that a stage keeps are the rule's: its sides, its faces, and its updates.
-- Assumes nothing.
use Rattle.std.specs.Prelude.{◌≡◌, refl, false, List, [], ℕ, suc, ◌<◌, ℤ, pos}
use Rattle.std.proofs.Math.ListN.{get_or}
use Rattle.whole.specs.Flags.{or_l, or_r}
use Rattle.tables.specs.Rows.{Written}
use Rattle.tables.specs.Cells.{Cell}
use Rattle.rules.specs.Face.{Flux}
use Rattle.rules.specs.Reach.{State, Bed, z1, hl, hr, side_l, side_r, bed_at}
use Rattle.rules.specs.Stage.{at_left, at_right, face_at, gauss, push, tilt, update}
use Rattle.rules.specs.Refusals.{fast_side}
use Rattle.rules.proofs.Laws.Shown.{at_same}
use Rattle.reach.specs.declared.Reach.{Reach}
use Rattle.reach.specs.declared.Call.{Call}
use Rattle.reach.specs.Told.{reach_in, call_on}
use Rattle.stage.specs.Rows.{left_in, right_in, sides_at, fast_sides, face_row, shown_in, cross_in}
use Rattle.stage.specs.Rows.{slope_of, thrust, push_of, tilt_of, update_by}

-- ---- the sides of a row of them are those of the cell
module _ (dry : ℤ) (bed : List ℤ) (s : State) (d : List (List ℤ)) (i : ℕ) (w : get_or d i [] ≡ sides_at dry bed s i) where
  pub left_in_lem : left_in d i ≡ side_l dry (bed_at bed i) (s i)
  unfolding sides_at
  left_in_lem = λ j. record { h = get_or (w j) 0 (pos 0); u = get_or (w j) 1 (pos 0) }

  pub right_in_lem : right_in d i ≡ side_r dry (bed_at bed i) (s i)
  unfolding sides_at
  right_in_lem = λ j. record { h = get_or (w j) 2 (pos 0); u = get_or (w j) 3 (pos 0) }

-- the two sides of a cell of which none is too fast
pub slow_sides : (dry : ℤ) (bed : List ℤ) (s : State) (i : ℕ) → fast_sides dry bed s i ≡ false
    → (fast_side (side_l dry (bed_at bed i) (s i)) ≡ false) × (fast_side (side_r dry (bed_at bed i) (s i)) ≡ false)
unfolding fast_sides
slow_sides dry bed s i e =
    let b = bed_at bed i in let left = fast_side (side_l dry b (s i)) in let right = fast_side (side_r dry b (s i)) in
    (or_l left right e, or_r left right e)

-- ---- what crosses the faces of a table of sides is what crosses the faces of the state
pub cross_at_lem : (reach : Reach) (call : Call) (bed : List ℤ) (ρ : ℕ → ℤ) (s : State) → 0 < reach.n → (d : List (List ℤ))
    → Written [] d reach.n (sides_at call.dry bed s)
    → (i : ℕ) → i < suc reach.n → cross_in reach call d i ≡ face_at (reach_in reach bed) (call_on call ρ) s i
cross_at_lem reach call bed ρ s o d w = let r = reach_in reach bed in let c = call_on call ρ in
    at_same (shown_in reach call d) (at_left r c s) (at_right r c s)
    (λ i l. left_in_lem call.dry bed s d i (w i l)) (λ i l. right_in_lem call.dry bed s d i (w i l)) o

-- ---- an update from rows is the rule's
pub update_is : (dx dt dry : ℤ) (b : Bed) (x : Cell) (l f : Flux)
    → update_by dx dt b x (face_row dx dt l) (face_row dx dt f) (gauss dry b x) ≡ update dx dt dry b x l f
unfolding update_by slope_of thrust update push_of tilt_of push tilt hl hr z1
update_is dx dt dry b x l f = refl
