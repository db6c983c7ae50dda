-- The checks of a call from the other end: each applies to the place opposite, so that the first that applies has the same number. What
-- comes after a check that applies is not compared, as there the states of the two surveys need not be each other's.
-- Assumes nothing.
use Rattle.std.specs.Prelude.{◌≡◌, refl, Bool, true, false, ◌||◌, ℕ, zero, suc, ◌+◌, ◌<◌, ℤ, pos, neg_ℤ, ◌*ℤ◌}
use Rattle.std.proofs.Common.{sym, ◌∙◌, ap₂, arith, eq-eqb}
use Rattle.std.proofs.Math.Path.{ap}
use Rattle.std.proofs.Math.Bool.{or_comm}
use mathlib.Core.List.{List, [], ◌∷◌, ◌++◌}
use Rattle.std.specs.Int.Signed.{lt_z}
use Rattle.whole.specs.Flags.{or_true}
use Rattle.tables.specs.Cells.{Cell}
use Rattle.rules.specs.Limits.{longest_cell, longest_step, largest_jump, deepest, fullest, fastest}
use Rattle.rules.specs.Face.{Side, Flux, speed}
use Rattle.rules.specs.Ends.{inflow_speed}
use Rattle.rules.specs.Lawful.{mirror, Lawful}
use Rattle.rules.specs.Reach.{Reach, Call, State, ql, qr, Bed, h0, hl, hr}
use Rattle.rules.specs.Stage.{at_left, at_right, depth_before, depth_behind, flow_before, flow_behind}
use Rattle.rules.specs.Step.{rubbed, stage_one, next}
use Rattle.rules.specs.Refusals.{any, outside, past, bad_dry, bad_end, bad_call, bad_bed, bad_rough, off_cell, off, fast_cell, fast_friction}
use Rattle.rules.specs.Refusals.{fast_side, fast_inflow, fast_face, fast_points, fast_gauss, too_long}
use Rattle.rules.specs.Refusals.{Check, each, stage_checks, early, checks, refusal}
use Rattle.rules.proofs.Laws.Speeds.{speed_odd}
use Rattle.rules.proofs.Laws.Limiter.{not_last}
use Rattle.rules.proofs.Laws.Runs.{early_of, stage_brief}
use Rattle.survey.specs.Turned.{turned_cell}
use Rattle.survey.proofs.Laws.Signs.{past_even}
use Rattle.survey.proofs.Laws.Cell.{turned_bed, h0_turned, hl_turned, hr_turned, ql_turned, qr_turned, before_turned, behind_turned}
use Rattle.survey.proofs.Laws.Surveys.{Surveys, other_reach, other_call, other, Turned, turned_back, TurnsInto, opposite_cell}
use Rattle.survey.proofs.Laws.Reversed.{Reversed, end, also, same_number}
use Rattle.survey.proofs.Laws.Faces.{left_side, right_side, face_turned}
use Rattle.survey.proofs.Laws.Step.{rubbed_turned, stage_one_turned, next_turned}

-- ---- 2: the ends are exchanged
any_swap : (a b : Bool) (bs : List Bool) → any (a ∷ b ∷ bs) ≡ any (b ∷ a ∷ bs)
unfolding any
any_swap true b bs = sym (or_true b)
any_swap false b bs = refl

bad_call_turned : (v : Surveys) → bad_call (other_reach v) (other_call v) ≡ bad_call v.reach v.call
unfolding bad_call any
bad_call_turned v = let c = v.call in
    ap (λ (b : Bool). outside (pos 1) longest_cell v.reach.dx || (outside (pos 1) longest_step c.dt
    || (outside (pos 0) largest_jump c.jump || (bad_dry c.dry || b)))) (any_swap (bad_end c.right) (bad_end c.left) [])

-- ---- one cell
off_cell_turned : (b : Bed) (x : Cell) → off_cell (turned_bed b) (turned_cell x) ≡ off_cell b x
unfolding off_cell any
off_cell_turned b x =
    let l = outside (pos 0) deepest (hl b x) in let r = outside (pos 0) deepest (hr b x) in
    let p = ap (past fullest) (ql_turned x) ∙ past_even fullest (qr x) in
    let q = ap (past fullest) (qr_turned x) ∙ past_even fullest (ql x) in
    (λ m. any (outside (pos 0) deepest (hl_turned b x m) ∷ outside (pos 0) deepest (hr_turned b x m) ∷ p m ∷ q m ∷ []))
    ∙ any_swap r l (past fullest (qr x) ∷ past fullest (ql x) ∷ [])
    ∙ ap (λ (z : Bool). l || (r || z)) (any_swap (past fullest (qr x)) (past fullest (ql x)) [])

-- the speed of a discharge q at a depth h is too fast
abbrev fast : ℤ → ℤ → ℤ → Bool
fast d q h = past fastest (speed d q h)

fast_even : (d q h : ℤ) → fast d (neg_ℤ q) h ≡ fast d q h
fast_even d q h = ap (past fastest) (speed_odd d q h) ∙ past_even fastest (speed d q h)

fast_cell_turned : (d : ℤ) (b : Bed) (x : Cell) → fast_cell d (turned_bed b) (turned_cell x) ≡ fast_cell d b x
unfolding fast_cell
fast_cell_turned d b x = fast_even d x.q0 (h0 (turned_bed b) (turned_cell x))
    ∙ ap (fast d x.q0) (h0_turned b x)

fast_points_turned : (d : ℤ) (b : Bed) (x : Cell) → fast_points d (turned_bed b) (turned_cell x) ≡ fast_points d b x
unfolding fast_points
fast_points_turned d b x =
    ap₂ ◌||◌ (before_turned (fast d) (fast_even d) b x) (behind_turned (fast d) (fast_even d) b x)
    ∙ or_comm (fast d (flow_behind x) (depth_behind b x)) (fast d (flow_before x) (depth_before b x))

-- ---- the faces
fast_mirror : (x : Side) → fast_side (mirror x) ≡ fast_side x
fast_mirror x = past_even fastest x.u

first_fast : (v : Surveys) (s t : State) → Turned v s t → (j : ℕ) → suc j ≡ v.reach.n
    → fast_face (other_reach v) (other_call v) t 0 ≡ fast_face v.reach v.call s (suc j)
unfolding fast_face fast_inflow inflow_speed
first_fast v s t w j o =
    let brought = fast_inflow v.call.dry v.call.right in let x = at_right v.reach v.call s j in
    rw (eq-eqb (suc j) v.reach.n o) (ap (λ (y : Side). brought y || fast_side y) (left_side v s t w 0 j (omega arith))
    ∙ ap (λ (b : Bool). brought x || b) (fast_mirror x) ∙ or_comm (brought x) (fast_side x))

fast_face_turned : (v : Surveys) (s t : State) → Turned v s t → 0 < v.reach.n → (i j : ℕ) → suc (i + j) ≡ suc v.reach.n
    → fast_face (other_reach v) (other_call v) t i ≡ fast_face v.reach v.call s j
unfolding fast_face
fast_face_turned v s t w z zero zero o = let y : ⊥ = omega arith in absurd y
fast_face_turned v s t w z zero (suc j) o = first_fast v s t w j (omega arith)
fast_face_turned v s t w z (suc i) zero o = sym (first_fast (other v) t s (turned_back v s t w) i (omega arith))
fast_face_turned v s t w z (suc i) (suc j) o =
    let x = at_right v.reach v.call s j in let y = at_left v.reach v.call s (suc j) in
    rw (not_last i v.reach.n (omega arith), not_last j v.reach.n (omega arith))
    (ap₂ ◌||◌ (ap fast_side (right_side v s t w i (suc j) (omega arith)) ∙ fast_mirror y)
    (ap fast_side (left_side v s t w (suc i) j (omega arith)) ∙ fast_mirror x) ∙ or_comm (fast_side y) (fast_side x))

-- ---- a state, and a stage from it
off_turned : TurnsInto (λ r c. off r) (λ r c. off r)
unfolding off
off_turned v s t w = opposite_cell v s t w off_cell off_cell off_cell_turned

stage_checks_turned : (v : Surveys) → Lawful v.reach.face → (s t : State) → Turned v s t → 0 < v.reach.n
    → Reversed (stage_checks v.reach v.call s) (stage_checks (other_reach v) (other_call v) t)
unfolding stage_checks fast_gauss too_long
stage_checks_turned v law s t w z = let d = v.call.dry in
    also (fast_face_turned v s t w z) (also (opposite_cell v s t w (fast_points d) (fast_points d) (fast_points_turned d))
    (also (λ i j o. ap (λ (f : Flux). lt_z (pos 4096 *ℤ v.reach.dx) (pos 2 *ℤ v.call.dt *ℤ f.S))
    (face_turned v law s t w z i j (omega arith))) end))

-- ---- the step
module _ (v : Surveys) (law : Lawful v.reach.face) (z : 0 < v.reach.n) (s t : State) (w : Turned v s t) where
  early_turned : Reversed (early v.reach v.call s) (early (other_reach v) (other_call v) t)
  unfolding early fast_friction
  early_turned = let d = v.call.dry in
      also (λ i j o. bad_call_turned v) (also (λ i j o. ap bad_bed (v.beds i j (omega arith))) (also (λ i j o. ap bad_rough (v.roughs i j o))
      (also (off_turned v s t w) (also (opposite_cell v s t w (fast_cell d) (fast_cell d) (fast_cell_turned d))
      (stage_checks_turned v law (rubbed v.reach v.call s) (rubbed (other_reach v) (other_call v) t) (rubbed_turned v s t w) z)))))

  -- the checks after `early`, and the last of all
  abbrev last : Reach → Call → State → List Check
  last r c s = each 8 r.n (off r (next r c s)) ∷ []

  abbrev later : Reach → Call → State → List Check
  later r c s = each 8 r.n (off r (stage_one r c s)) ∷ stage_checks r c (stage_one r c s) ++ last r c s

  pub refusal_turned : refusal (other_reach v) (other_call v) t ≡ refusal v.reach v.call s
  unfolding refusal checks early stage_checks
  refusal_turned =
      let r = v.reach in let c = v.call in let r' = other_reach v in let c' = other_call v in
      let y = stage_one r c s in let y' = stage_one r' c' t in
      same_number early_turned (later r c s) (later r' c' t) (λ clear.
      let a = early_of r c s clear in let one = stage_one_turned v law s t w a in
      same_number (also (off_turned v y y' one) (stage_checks_turned v law y y' one z)) (last r c s) (last r' c' t) (λ clear.
      let end-too = next_turned v law s t w a (stage_brief r c y clear.1) in
      same_number (also (off_turned v (next r c s) (next r' c' t) end-too) end) [] [] (λ clear. refl)))
