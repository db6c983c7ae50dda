-- A lake at rest into which no water is brought: of the checks after 5 only 7, that of the time step, can apply to it.
-- Assumes nothing.
use Rattle.std.specs.Prelude.{◌≡◌, refl, false, List, [], ◌∷◌, ◌++◌, ◌⊎◌, ℕ, suc, ◌-◌, ◌<◌, ℤ, pos, ◌≤ℤ◌}
use Rattle.std.proofs.Common.{sym, ◌∙◌}
use Rattle.std.proofs.Math.Path.{ap}
use Rattle.std.proofs.Math.Logic.{inl, inr}
use Rattle.whole.specs.Flags.{by}
use Rattle.whole.specs.Choice.{size_z}
use Rattle.tables.specs.Some.{some}
use Rattle.tables.proofs.Some.{none_some, some_same}
use Rattle.tables.specs.Cells.{Cell}
use Rattle.rules.specs.Limits.{fastest}
use Rattle.rules.specs.Face.{Side, speed}
use Rattle.rules.specs.Ends.{End, is_inflow, inflow_speed}
use Rattle.rules.specs.Lawful.{Lawful}
use Rattle.rules.specs.Reach.{Reach, Call, State, under, h0}
use Rattle.rules.specs.Stage.{at_left, at_right, share, depth_before, depth_behind, flow_before, flow_behind}
use Rattle.rules.specs.Step.{rubbed, stage_one, next}
use Rattle.rules.specs.Refusals.{past, bad_call, bad_bed, bad_rough, off, fast_cell, fast_friction, fast_side, fast_inflow, fast_face}
use Rattle.rules.specs.Refusals.{fast_points, fast_gauss, too_long, Check, of_call, each, applies, verdict, Clear, stage_checks, early}
use Rattle.rules.specs.Refusals.{checks, refusal}
use Rattle.rules.specs.AtRest.{Calm, AtRest}
use Rattle.rules.proofs.Laws.Speeds.{speed_none}
use Rattle.rules.proofs.Laws.Verdicts.{check_at, clear_at, of_call_lem}
use Rattle.rules.proofs.Laws.Order as order
use Rattle.rules.specs.Laws.Agree.{Same}
use Rattle.rules.proofs.Laws.Agree.{off_same, too_long_same}
use Rattle.rules.proofs.Laws.FastFaces.{no_face}
use Rattle.rules.proofs.Laws.EvenBed.{EvenBed}
use Rattle.rules.specs.Laws.Rest.{NoInflow}
use Rattle.rules.proofs.Laws.Rest.{side_l_rest, side_r_rest, rubbed_rest, rubbed_at, stage_one_rest, stage_one_at, next_rest}
use Rattle.rules.proofs.Laws.Runs.{fine, even_bed}

-- ---- no speed is too great where there is no discharge
pub no_speed : (d q h : ℤ) → q ≡ pos 0 → past fastest (speed d q h) ≡ false
unfolding size_z
no_speed d q h e = ap (λ (z : ℤ). past fastest (speed d z h)) e ∙ ap (past fastest) (speed_none d h)

no_flow : (x : Cell) → Calm x → (flow_before x ≡ pos 0) × (flow_behind x ≡ pos 0)
unfolding share
no_flow x m = (rw (m.q0, m.q1), rw (m.q0, m.q1))

slow_inflow : (d : ℤ) (e : End) → e.q ≡ 0 → (x : Side) → fast_inflow d e x ≡ false
unfolding fast_inflow inflow_speed
slow_inflow d e z x = by (is_inflow e) (λ b. rw b (no_speed d (pos e.q) x.h (ap pos z))) (λ b. rw b)

module _ (r : Reach) (ev : EvenBed r) (s : State) (a : AtRest r s) (law : Lawful r.face) (c : Call) (shut : NoInflow c) where
  slow_friction : some (fast_friction r c s) r.n ≡ false
  unfolding fast_friction fast_cell
  slow_friction = none_some (fast_friction r c s) r.n (λ i l. no_speed c.dry (s i).q0 (h0 (under r i) (s i)) (a.calm i l).q0)

  slow_left : (i : ℕ) → i < r.n → fast_side (at_left r c s i) ≡ false
  unfolding size_z
  slow_left i l = ap fast_side (side_l_rest r ev s a law c shut i l)

  slow_right : (i : ℕ) → i < r.n → fast_side (at_right r c s i) ≡ false
  unfolding size_z
  slow_right i l = ap fast_side (side_r_rest r ev s a law c shut i l)

  slow_faces : 0 < r.n → some (fast_face r c s) (suc r.n) ≡ false
  slow_faces o = no_face r c s (slow_inflow c.dry c.left shut.left (at_left r c s 0)) o
      (λ i l. (slow_left i l, slow_right i l)) (slow_inflow c.dry c.right shut.right (at_right r c s (r.n - 1)))

  slow_points : some (fast_gauss r c s) r.n ≡ false
  unfolding fast_gauss fast_points
  slow_points = none_some (fast_gauss r c s) r.n (λ i l. let x = s i in let b = under r i in let none = no_flow x (a.calm i l) in
      rw (no_speed c.dry (flow_before x) (depth_before b x) none.0, no_speed c.dry (flow_behind x) (depth_behind b x) none.1))

-- ---- the verdict
-- the checks of what is lent, 2 to 5, and those after them
abbrev pub input : Reach → Call → State → List Check
input r c s =
    of_call 2 (bad_call r c) ∷ each 3 (suc r.n) (λ i. bad_bed (r.bed i)) ∷ each 4 r.n (λ i. bad_rough (c.rough i))
    ∷ each 5 r.n (off r s) ∷ []

abbrev pub worked : Reach → Call → State → List Check
worked r c s =
    each 6 r.n (fast_friction r c s) ∷ stage_checks r c (rubbed r c s)
    ++ each 8 r.n (off r (stage_one r c s)) ∷ stage_checks r c (stage_one r c s)
    ++ each 8 r.n (off r (next r c s)) ∷ []

pub two_parts : (r : Reach) (c : Call) (s : State) → refusal r c s ≡ verdict (input r c s ++ worked r c s)
unfolding refusal checks early stage_checks
two_parts r c s = refl

module _ (r : Reach) (law : Lawful r.face) (o : 0 < r.n) (c : Call) (shut : NoInflow c) (s : State) (a : AtRest r s)
    (ok : Clear (input r c s)) where
  clear : (i : ℕ) → applies (check_at (input r c s) i) ≡ false
  clear = clear_at (input r c s) ok

  ev : EvenBed r
  ev = even_bed r (clear order.beds)

  jump≥0 : pos 0 ≤ℤ c.jump
  jump≥0 = (fine r c (sym (of_call_lem 2 (bad_call r c)) ∙ clear order.call)).jump

  still_rubbed : AtRest r (rubbed r c s)
  still_rubbed = rubbed_at r law ev o c shut jump≥0 s a

  still_one : AtRest r (stage_one r c s)
  still_one = stage_one_at r law ev o c shut jump≥0 s a

  one_same : Same r (stage_one r c s) s
  one_same = stage_one_rest r law ev o c shut jump≥0 s a

  -- stage two starts from what stage one did, so its 7 applies where stage one's does, and nowhere else
  again : some (too_long r c (stage_one r c s)) (suc r.n) ≡ some (too_long r c (rubbed r c s)) (suc r.n)
  again = some_same (too_long r c (stage_one r c s)) (too_long r c (rubbed r c s)) (suc r.n)
      (too_long_same r c (stage_one r c s) (rubbed r c s) (λ i l. one_same i l ∙ sym (rubbed_rest r ev s a law c shut i l)) o)

  -- and no number has changed that 5 found in range
  in_range : (t : State) → Same r t s → some (off r t) r.n ≡ false
  in_range t e = some_same (off r t) (off r s) r.n (off_same r c t s e) ∙ clear order.state

  pub seven_alone : (verdict (worked r c s) ≡ 0) ⊎ (verdict (worked r c s) ≡ 7)
  unfolding verdict stage_checks
  seven_alone =
      let friction = slow_friction r ev s a law c shut in
      let faces = slow_faces r ev (rubbed r c s) still_rubbed law c shut o in
      let points = slow_points r ev (rubbed r c s) still_rubbed law c shut in
      by (some (too_long r c (rubbed r c s)) (suc r.n))
      (λ long. inr (rw (friction, faces, points, long)))
      (λ short. inl (rw (
        friction,
        faces,
        points,
        short,
        in_range (stage_one r c s) one_same,
        slow_faces r ev (stage_one r c s) still_one law c shut o,
        slow_points r ev (stage_one r c s) still_one law c shut,
        again ∙ short,
        in_range (next r c s) (next_rest r law ev o c shut jump≥0 s a),
      )))
