-- To be believed. The step over what requests changed of it: its check 2, and parts of a stage. All else is as before E7.
use Rattle.std.specs.Prelude.{Bool, cond, ◌||◌, List, [], ◌∷◌, ◌++◌, ℕ, zero, suc, eqb, ℤ, pos, ◌*ℤ◌}
use Rattle.std.specs.Int.Signed.{lt_z}
use Rattle.tables.specs.Rows.{row}
use Rattle.tables.specs.Cells.{Cell}
use Rattle.rules.specs.Face.{Side, Flux}
use Rattle.rules.specs.Shown.{Shown, cross_right, cross_at, volume}
use Rattle.rules.specs.Ends.{End}
use Rattle.rules.specs.Reach.{Reach, Call, State, Bed, under}
use Rattle.rules.specs.Finishing.{finish}
use Rattle.rules.specs.Step.{rubbed, half, joined_cell}
use Rattle.rules.specs.Refusals.{bad_bed, bad_rough, off, fast_friction, fast_side, fast_gauss, Check, each, of_call, verdict}
use Rattle.rules.specs.Lent.{Lent, cells_of, reach_of, call_of, misfits}
use Rattle.before.specs.E13.{Outcome, refused, accepted}
use Rattle.before.specs.E7.{flat, state_of}

pub record Parts : Type 0 where
  -- the sides that a cell shows to its two faces, at a dry depth
  pub side_l : ℤ → Bed → Cell → Side
  pub side_r : ℤ → Bed → Cell → Side
  -- what crosses the two ends beside a side, under a face rule and at a dry depth; and whether an end's own speed is too fast there
  pub left_end : (Side → Side → Flux) → ℤ → End → Side → Flux
  pub right_end : (Side → Side → Flux) → ℤ → End → Side → Flux
  pub fast_inflow : ℤ → End → Side → Bool
  -- a cell after a stage: by dx, dt and the dry depth, over its bed, between the fluxes at its faces
  pub update : ℤ → ℤ → ℤ → Bed → Cell → Flux → Flux → Cell

module _ (p : Parts) (r : Reach) (c : Call) where
  -- ---- the stages
  abbrev pub shown : State → Shown
  shown s = record {
    n = r.n;
    face = r.face;
    left = p.left_end r.face c.dry c.left;
    right = p.right_end r.face c.dry c.right;
    to_left = λ i. p.side_l c.dry (under r i) (s i);
    to_right = λ i. p.side_r c.dry (under r i) (s i);
  }

  unfoldable pub stage : State → State
  stage s i = p.update r.dx c.dt c.dry (under r i) (s i) (cross_at (shown s) i) (cross_right (shown s) i)

  unfoldable pub stage_one : State → State
  stage_one s = finish r c (stage (rubbed r c s))

  -- W at face i
  unfoldable pub carry : State → ℕ → ℤ
  carry s i =
      half (volume r.dx c.dt (cross_at (shown (rubbed r c s)) i)) (volume r.dx c.dt (cross_at (shown (stage_one s)) i))

  unfoldable pub next : State → State
  next s = finish r c (λ i. joined_cell (rubbed r c s i) (stage (stage_one s) i) (carry s i) (carry s (suc i)))

  -- ---- the checks after 5, in their order
  unfoldable pub fast_face : State → ℕ → Bool
  fast_face s zero = let x = (shown s).to_left zero in p.fast_inflow c.dry c.left x || fast_side x
  fast_face s (suc i) = let x = (shown s).to_right i in
      fast_side x || cond (eqb (suc i) r.n) (p.fast_inflow c.dry c.right x) (fast_side ((shown s).to_left (suc i)))

  unfoldable pub too_long : State → ℕ → Bool
  too_long s i = lt_z (pos 4096 *ℤ r.dx) (pos 2 *ℤ c.dt *ℤ (cross_at (shown s) i).S)

  unfoldable pub stage_checks : State → List Check
  stage_checks s =
      each 6 (suc r.n) (fast_face s) ∷ each 6 r.n (fast_gauss r c s) ∷ each 7 (suc r.n) (too_long s) ∷ []

  -- the friction speeds, and stage one with its 8; stage two with the end state's
  unfoldable pub checks_of_one : State → List Check
  checks_of_one s =
      each 6 r.n (fast_friction r c s) ∷ stage_checks (rubbed r c s) ++ each 8 r.n (off r (stage_one s)) ∷ []

  unfoldable pub checks_of_two : State → List Check
  checks_of_two s = stage_checks (stage_one s) ++ each 8 r.n (off r (next s)) ∷ []

-- ---- the call; its check 2 is given, as `bad`
unfoldable pub checks_to_five : (Reach → Call → Bool) → Lent → List Check
checks_to_five bad a = let n = cells_of a in
    of_call 1 (misfits a)
    ∷ of_call 2 (bad (reach_of a) (call_of a))
    ∷ each 3 (suc n) (λ i. bad_bed ((reach_of a).bed i))
    ∷ each 4 n (λ i. bad_rough ((call_of a).rough i))
    ∷ each 5 n (off (reach_of a) (state_of a))
    ∷ []

module _ (bad : Reach → Call → Bool) (p : Parts) (a : Lent) where
  -- the number of the refusal, or 0
  unfoldable pub number : ℕ
  number = let r = reach_of a in let c = call_of a in let s = state_of a in
      verdict (checks_to_five bad a ++ checks_of_one p r c s ++ checks_of_two p r c s)

  -- that number; or the next table and W at face 0 and at face n
  unfoldable pub step_by : Outcome
  step_by = let n = cells_of a in let r = reach_of a in let c = call_of a in let s = state_of a in
      cond (eqb number 0) (accepted (flat (row n (next p r c s))) (carry p r c s 0) (carry p r c s n)) (refused number)
