-- Parts that do in a call what the rules in force do, on every cell whose face depths are not below nought, make the step before E7:
-- each stage starts from a state that passed check 5 or 8, so no other cell is met.
-- Assumes nothing.
use Rattle.std.specs.Prelude.{◌≡◌, refl, Bool, cond, List, [], ◌∷◌, ◌++◌, eqb, length, pos, ◌*ℤ◌}
use Rattle.std.proofs.Math.Path.{sym, ap, ap₂}
use Rattle.std.proofs.Common.{◌∙◌, eqb-true}
use Rattle.std.proofs.Math.Bool.{◌||◌}
use Prim.Native.Nat.{ℕ, zero, suc, ◌<◌}
use native.Mathlib.Omega.{arith}
use Rattle.std.specs.Int.Signed.{lt_z}
use Rattle.whole.specs.Flags.{by}
use Rattle.tables.specs.Some.{some}
use Rattle.tables.specs.Rows.{row_same}
use Rattle.tables.specs.Cells.{Cell}
use Rattle.rules.specs.Face.{Side, Flux}
use Rattle.rules.specs.Shown.{cross_right, cross_at, volume}
use Rattle.rules.specs.Ends.{left_end, right_end}
use Rattle.rules.specs.Reach.{Reach, Call, State, Bed, under, side_l, side_r}
use Rattle.rules.specs.Stage.{at_left, at_right, face_at, update, stage}
use Rattle.rules.specs.Step.{rubbed, stage_one, half, carry, joined_cell, joined, next}
use Rattle.rules.specs.Refusals.{bad_call, bad_bed, bad_rough, off, fast_friction, fast_side, fast_inflow, fast_face}
use Rattle.rules.specs.Refusals.{too_long, Check, each, of_call, verdict, stage_checks, early, checks, refusal, Clear}
use Rattle.rules.specs.Lent.{Lent, cells_of, reach_of, call_of, misfits}
use Rattle.rules.proofs.Laws.Shown.{last, at_same}
use Rattle.rules.specs.Laws.Agree.{Same}
use Rattle.rules.proofs.Laws.Agree.{face_at_same, stage_same, finish_same, off_same, stage_checks_same}
use Rattle.rules.proofs.Laws.Accept.{passed}
use Rattle.rules.proofs.Laws.Verdicts.{clear_at, of_call_lem, verdict_after}
use Rattle.rules.proofs.Laws.Alike.{Alike, end, also, alike_after, alike_self, alike_alike, same_number}
use Rattle.rules.proofs.Laws.Lengths.{fitted}
use Rattle.rules.proofs.Laws.Positive.{Nonneg, Wet, rubbed_wet}
use Rattle.rules.proofs.Laws.Runs.{in_range}
use Rattle.before.specs.E13.{Outcome, refused, accepted}
use Rattle.before.specs.E7.{flat, state_of, number, step_of}
use Rattle.before.specs.Parts.{Parts}
use Rattle.before.specs.Parts as before

-- ---- the states that the two stages start from have no face depth below nought: the last check before each is of its range
pub wet_now : (bad : Reach → Call → Bool) (a : Lent) → Clear (before.checks_to_five bad a) → Wet (reach_of a) (state_of a)
unfolding before.checks_to_five
wet_now bad a q = in_range (reach_of a) (state_of a) (clear_at (before.checks_to_five bad a) q 4)

pub wet_one : (p : Parts) (r : Reach) (c : Call) (s : State) → Clear (before.checks_of_one p r c s) → Wet r (before.stage_one p r c s)
unfolding before.checks_of_one before.stage_checks
wet_one p r c s q = in_range r (before.stage_one p r c s) (clear_at (before.checks_of_one p r c s) q 4)

-- ---- parts that do as the rules in force
pub record AsInForce (p : Parts) (r : Reach) (c : Call) : Type 0 where
  pub side_l : (b : Bed) (x : Cell) → Nonneg b x → p.side_l c.dry b x ≡ side_l c.dry b x
  pub side_r : (b : Bed) (x : Cell) → Nonneg b x → p.side_r c.dry b x ≡ side_r c.dry b x
  pub left : (x : Side) → p.left_end r.face c.dry c.left x ≡ left_end r.face c.dry c.left x
  pub right : (x : Side) → p.right_end r.face c.dry c.right x ≡ right_end r.face c.dry c.right x
  pub fast_left : (x : Side) → p.fast_inflow c.dry c.left x ≡ fast_inflow c.dry c.left x
  pub fast_right : (x : Side) → p.fast_inflow c.dry c.right x ≡ fast_inflow c.dry c.right x
  pub update : (b : Bed) (x : Cell) → Nonneg b x → (l f : Flux)
      → p.update r.dx c.dt c.dry b x l f ≡ update r.dx c.dt c.dry b x l f

-- the checks in force after 5, of stage one and of stage two
module _ (r : Reach) (c : Call) (s : State) where
  abbrev one : List Check
  one =
      each 6 r.n (fast_friction r c s) ∷ stage_checks r c (rubbed r c s) ++ each 8 r.n (off r (stage_one r c s)) ∷ []

  abbrev two : List Check
  two = stage_checks r c (stage_one r c s) ++ each 8 r.n (off r (next r c s)) ∷ []

module _ (p : Parts) (r : Reach) (c : Call) (k : AsInForce p r c) (o : 0 < r.n) where
  -- ---- a stage from a state with no face depth below nought is the one in force
  module _ (s : State) (w : Wet r s) where
    left_is : (i : ℕ) → i < r.n → (before.shown p r c s).to_left i ≡ at_left r c s i
    left_is i l = k.side_l (under r i) (s i) (w i l)

    right_is : (i : ℕ) → i < r.n → (before.shown p r c s).to_right i ≡ at_right r c s i
    right_is i l = k.side_r (under r i) (s i) (w i l)

    face_is : (i : ℕ) → i < suc r.n → cross_at (before.shown p r c s) i ≡ face_at r c s i
    face_is i l = at_same (before.shown p r c s) (at_left r c s) (at_right r c s) left_is right_is o i l
        ∙ (λ j. cross_at (record {
          n = r.n;
          face = r.face;
          left = λ x. k.left x j;
          right = λ x. k.right x j;
          to_left = at_left r c s;
          to_right = at_right r c s;
        }) i)

    stage_is : Same r (before.stage p r c s) (stage r c s)
    unfolding before.stage stage cross_at
    stage_is i l =
        k.update (under r i) (s i) (w i l) (cross_at (before.shown p r c s) i) (cross_right (before.shown p r c s) i)
        ∙ ap₂ (update r.dx c.dt c.dry (under r i) (s i)) (face_is i (omega arith)) (face_is (suc i) (omega arith))

    fast_is : (i : ℕ) → i < suc r.n → before.fast_face p r c s i ≡ fast_face r c s i
    unfolding before.fast_face fast_face
    fast_is zero l = let x = (before.shown p r c s).to_left zero in
        ap₂ ◌||◌ (k.fast_left x ∙ ap (fast_inflow c.dry c.left) (left_is zero o)) (ap fast_side (left_is zero o))
    fast_is (suc i) l = let m : i < r.n = omega arith in let x = (before.shown p r c s).to_right i in
        ap₂ ◌||◌ (ap fast_side (right_is i m)) (last i r.n m
        (p.fast_inflow c.dry c.right x) (fast_side ((before.shown p r c s).to_left (suc i)))
        (fast_inflow c.dry c.right (at_right r c s i)) (fast_side (at_left r c s (suc i)))
        (k.fast_right x ∙ ap (fast_inflow c.dry c.right) (right_is i m)) (λ n. ap fast_side (left_is (suc i) n)))

    checks_are : Alike (before.stage_checks p r c s) (stage_checks r c s)
    unfolding before.stage_checks stage_checks before.too_long too_long
    checks_are = also fast_is (also (λ i l. refl)
        (also (λ i l. ap (λ (f : Flux). lt_z (pos 4096 *ℤ r.dx) (pos 2 *ℤ c.dt *ℤ f.S)) (face_is i l)) end))

  -- ---- the step from s
  module _ (s : State) where
    abbrev a : State
    a = rubbed r c s

    abbrev b : State
    b = before.stage_one p r c s

    -- where s passes check 5
    module _ (w : Wet r s) where
      one_same : Same r b (stage_one r c s)
      unfolding before.stage_one stage_one
      one_same = finish_same r c (before.stage p r c a) (stage r c a) (stage_is a (rubbed_wet r c s w))

      checks_of_one_same : Alike (before.checks_of_one p r c s) (one r c s)
      unfolding before.checks_of_one
      checks_of_one_same =
          also (λ i l. refl) (alike_after (checks_are a (rubbed_wet r c s w)) (also (off_same r c b (stage_one r c s) one_same) end))

      -- and stage one its 8
      module _ (v : Wet r b) where
        pub carry_same : (i : ℕ) → i < suc r.n → before.carry p r c s i ≡ carry r c s i
        unfolding before.carry carry
        carry_same i l = ap₂ (λ (f g : Flux). half (volume r.dx c.dt f) (volume r.dx c.dt g))
            (face_is a (rubbed_wet r c s w) i l) (face_is b v i l ∙ face_at_same r c b (stage_one r c s) one_same o i l)

        pub next_same : Same r (before.next p r c s) (next r c s)
        unfolding before.next next joined
        next_same = finish_same r c _ _ (λ i l j. joined_cell (a i)
            ((stage_is b v i l ∙ stage_same r c b (stage_one r c s) one_same i l) j)
            (carry_same i (omega arith) j) (carry_same (suc i) (omega arith) j))

        checks_of_two_same : Alike (before.checks_of_two p r c s) (two r c s)
        unfolding before.checks_of_two
        checks_of_two_same =
            alike_after (alike_alike (checks_are b v) (stage_checks_same r c b (stage_one r c s) one_same o))
            (also (off_same r c (before.next p r c s) (next r c s) next_same) end)

    further_same : Wet r s → verdict (before.checks_of_one p r c s ++ before.checks_of_two p r c s) ≡ verdict (one r c s ++ two r c s)
    further_same w =
        verdict_after (before.checks_of_one p r c s) (before.checks_of_two p r c s) (two r c s)
        (λ z. same_number (checks_of_two_same w (wet_one p r c s z)))
        ∙ same_number (alike_after (checks_of_one_same w) (alike_self (two r c s)))

-- ---- the call: the same number, or the same table and volumes
either : (k m : ℕ) (x y : Outcome) → k ≡ m → (k ≡ 0 → x ≡ y) → cond (eqb k 0) x (refused k) ≡ cond (eqb m 0) y (refused m)
either k m x y e f = by (eqb k 0) (λ z. rw z (f (eqb-true k 0 z))) (λ z. rw z) ∙ ap (λ (j : ℕ). cond (eqb j 0) y (refused j)) e

module _ (bad : Reach → Call → Bool) (p : Parts) (a : Lent) (call : bad (reach_of a) (call_of a) ≡ bad_call (reach_of a) (call_of a))
    (k : AsInForce p (reach_of a) (call_of a)) where
  abbrev n : ℕ
  n = cells_of a

  abbrev r : Reach
  r = reach_of a

  abbrev c : Call
  c = call_of a

  abbrev s : State
  s = state_of a

  some_cell : Clear (before.checks_to_five bad a) → 0 < n
  unfolding before.checks_to_five
  some_cell q = (fitted (length a.now) a.room (length a.bed) n (sym (of_call_lem 1 (misfits a)) ∙ q.0)).some

  number_same : before.number bad p a ≡ number a
  unfolding before.number number refusal checks early stage_checks before.checks_to_five verdict some
  number_same =
      verdict_after (before.checks_to_five bad a) (before.checks_of_one p r c s ++ before.checks_of_two p r c s) (one r c s ++ two r c s)
      (λ q. further_same p r c k (some_cell q) s (wet_now bad a q))
      ∙ (λ j. verdict (of_call 1 (misfits a) ∷ of_call 2 (call j)
      ∷ each 3 (suc n) (λ i. bad_bed (r.bed i)) ∷ each 4 n (λ i. bad_rough (c.rough i)) ∷ each 5 n (off r s)
      ∷ one r c s ++ two r c s))

  pub as_before : step_of a ≡ before.step_by bad p a
  unfolding before.step_by step_of before.number before.checks_to_five before.checks_of_one before.stage_checks
  as_before = sym (either (before.number bad p a) (number a) _ _ number_same (λ z.
      let five = passed 0 (before.checks_to_five bad a) (before.checks_of_one p r c s ++ before.checks_of_two p r c s) tt z in
      let eight = passed 0 (before.checks_of_one p r c s) (before.checks_of_two p r c s) tt five.1 in
      let o = some_cell five.0 in let w = wet_now bad a five.0 in let v = wet_one p r c s eight.0 in
      λ j. accepted (flat (row_same n (before.next p r c s) (next r c s) (next_same p r c k o s w v) j))
      (carry_same p r c k o s w v 0 (omega arith) j) (carry_same p r c k o s w v n (omega arith) j)))
