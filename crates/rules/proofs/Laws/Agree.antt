-- States that agree in the reach give one answer: the working tables hold no more than the n cells.
-- Assumes nothing.
use Rattle.std.specs.Prelude.{◌≡◌, ◌&&◌, eqb, ℤ, pos, ◌-ℤ◌, ◌*ℤ◌}
use Rattle.std.proofs.Math.Path.{refl, ap, ap₂}
use Rattle.std.proofs.Common.{◌∙◌}
use Rattle.std.proofs.Math.Bool.{not, cond, ◌||◌}
use Prim.Native.Nat.{ℕ, zero, suc, ◌<◌}
use native.Mathlib.Omega.{arith}
use Rattle.std.specs.Int.Signed.{lt_z}
use Rattle.whole.specs.Flags.{by}
use Rattle.whole.specs.Choice.{size_z}
use Rattle.tables.specs.Cells.{Cell}
use Rattle.rules.specs.Face.{Side, Flux}
use Rattle.rules.specs.Reach.{Reach, Call, State, el, er, under, shallow, side_l, side_r}
use Rattle.rules.specs.Shown.{volume}
use Rattle.rules.specs.Stage.{at_left, at_right, shown, face_right, face_at, update, stage}
use Rattle.rules.specs.Finishing.{parted, marked, shallow_at, shallow_left, shallow_right, spared, is_limited}
use Rattle.rules.specs.Finishing.{minmod, with_right, with_left, limited, limit, cut, dried, finish}
use Rattle.rules.specs.Step.{rubbed, stage_one, half, carry, joined_cell, joined, next}
use Rattle.rules.specs.Refusals.{off_cell, off, fast_friction, fast_side, fast_inflow, fast_face, fast_points, fast_gauss, too_long}
use Rattle.rules.specs.Refusals.{stage_checks, early, checks}
use Rattle.rules.proofs.Laws.Shown.{inside, last, right_same, at_same}
use Rattle.rules.proofs.Laws.Alike.{Alike, end, also, alike_after}
use Rattle.rules.specs.Laws.Agree.{Same}

module _ (r : Reach) (c : Call) (s t : State) (e : Same r s t) where
  -- ---- a stage
  at_left_same : (i : ℕ) → i < r.n → at_left r c s i ≡ at_left r c t i
  at_left_same i l = ap (side_l c.dry (under r i)) (e i l)

  at_right_same : (i : ℕ) → i < r.n → at_right r c s i ≡ at_right r c t i
  at_right_same i l = ap (side_r c.dry (under r i)) (e i l)

  pub face_right_same : (i : ℕ) → i < r.n → face_right r c s i ≡ face_right r c t i
  face_right_same = right_same (shown r c s) (at_left r c t) (at_right r c t) at_left_same at_right_same

  pub face_at_same : 0 < r.n → (i : ℕ) → i < suc r.n → face_at r c s i ≡ face_at r c t i
  face_at_same = at_same (shown r c s) (at_left r c t) (at_right r c t) at_left_same at_right_same

  pub stage_same : Same r (stage r c s) (stage r c t)
  unfolding stage
  stage_same i l =
      ap (λ (x : Cell). update r.dx c.dt c.dry (under r i) x (face_at r c s i) (face_right r c s i)) (e i l)
      ∙ ap₂ (update r.dx c.dt c.dry (under r i) (t i)) (face_at_same (omega arith) i (omega arith)) (face_right_same i l)

  -- ---- finishing
  pub parted_same : (i : ℕ) → i < r.n → parted r c s i ≡ parted r c t i
  unfolding parted
  parted_same i l = by (eqb (suc i) r.n) (λ d. rw d)
      (λ d. rw d (ap₂ (λ (x y : Cell). lt_z c.jump (size_z (el x -ℤ er y))) (e (suc i) (inside i r.n l d)) (e i l)))

  marked_same : (i : ℕ) → i < r.n → marked r c s i ≡ marked r c t i
  unfolding marked
  marked_same zero l = parted_same zero l
  marked_same (suc i) l = ap₂ ◌||◌ (parted_same i (omega arith)) (parted_same (suc i) l)

  shallow_same : (d : ℤ) (i : ℕ) → i < r.n → shallow_at d r s i ≡ shallow_at d r t i
  shallow_same d i l = ap (shallow d (under r i)) (e i l)

  shallow_left_same : (d : ℤ) (i : ℕ) → i < r.n → shallow_left d r s i ≡ shallow_left d r t i
  unfolding shallow_left
  shallow_left_same d zero l = refl
  shallow_left_same d (suc i) l = shallow_same d i (omega arith)

  shallow_right_same : (d : ℤ) (i : ℕ) → i < r.n → shallow_right d r s i ≡ shallow_right d r t i
  unfolding shallow_right
  shallow_right_same d i l = by (eqb (suc i) r.n) (λ k. rw k) (λ k. rw k (shallow_same d (suc i) (inside i r.n l k)))

  spared_same : (d : ℤ) (i : ℕ) → i < r.n → spared d r s i ≡ spared d r t i
  unfolding spared
  spared_same d i l = λ k. shallow_same d i l k || shallow_left_same d i l k || shallow_right_same d i l k

  is_limited_same : (i : ℕ) → i < r.n → is_limited r c s i ≡ is_limited r c t i
  unfolding is_limited
  is_limited_same i l = λ k. marked_same i l k && not (spared_same c.dry i l k)

  limited_same : (f : Cell → ℤ) (x : ℤ) (i : ℕ) → i < r.n → limited r (λ j. f (s j)) i x ≡ limited r (λ j. f (t j)) i x
  unfolding limited with_left with_right
  limited_same f x i l = left (with_right r (λ j. f (s j)) i x) i l ∙ ap (with_left (λ j. f (t j)) i) right
    where
      right : with_right r (λ j. f (s j)) i x ≡ with_right r (λ j. f (t j)) i x
      right = last i r.n l x (minmod x (f (s (suc i)) -ℤ f (s i))) x (minmod x (f (t (suc i)) -ℤ f (t i))) refl
          (λ m. ap₂ (λ (a b : Cell). minmod x (f a -ℤ f b)) (e (suc i) m) (e i l))

      left : (y : ℤ) (i : ℕ) → i < r.n → with_left (λ j. f (s j)) i y ≡ with_left (λ j. f (t j)) i y
      left y zero l = refl
      left y (suc i) l = ap₂ (λ (a b : Cell). minmod y (f a -ℤ f b)) (e (suc i) l) (e i (omega arith))

  limit_same : Same r (limit r c s) (limit r c t)
  unfolding limit
  limit_same i l =
      let a : limited r (λ j. (s j).e0) i (s i).e1 ≡ limited r (λ j. (t j).e0) i (t i).e1 = limited_same (λ x. x.e0) (s i).e1 i l
      ∙ ap (λ (x : Cell). limited r (λ j. (t j).e0) i x.e1) (e i l) in
      let b : limited r (λ j. (s j).q0) i (s i).q1 ≡ limited r (λ j. (t j).q0) i (t i).q1 = limited_same (λ x. x.q0) (s i).q1 i l
      ∙ ap (λ (x : Cell). limited r (λ j. (t j).q0) i x.q1) (e i l) in
      λ k. record {
        e0 = (e i l k).e0;
        e1 = cond (is_limited_same i l k) (a k) (e i l k).e1;
        q0 = (e i l k).q0;
        q1 = cond (is_limited_same i l k) (b k) (e i l k).q1;
      }

pub finish_same : (r : Reach) (c : Call) (s t : State) → Same r s t → Same r (finish r c s) (finish r c t)
unfolding finish
finish_same r c s t e i l = ap (λ (x : Cell). dried c.dry (under r i) (cut (under r i) x)) (limit_same r c s t e i l)

-- ---- refusals
module _ (r : Reach) (c : Call) (s t : State) (e : Same r s t) where
  pub off_same : (i : ℕ) → i < r.n → off r s i ≡ off r t i
  unfolding off
  off_same i l = ap (off_cell (under r i)) (e i l)

  fast_gauss_same : (i : ℕ) → i < r.n → fast_gauss r c s i ≡ fast_gauss r c t i
  unfolding fast_gauss
  fast_gauss_same i l = ap (fast_points c.dry (under r i)) (e i l)

  module _ (o : 0 < r.n) where
    fast_face_same : (i : ℕ) → i < suc r.n → fast_face r c s i ≡ fast_face r c t i
    unfolding fast_face
    fast_face_same zero l = ap (λ (x : Side). fast_inflow c.dry c.left x || fast_side x) (at_left_same r c s t e zero o)
    fast_face_same (suc i) l = let m : i < r.n = omega arith in let q = at_right_same r c s t e i m in
        ap₂ ◌||◌ (ap fast_side q) (last i r.n m
        (fast_inflow c.dry c.right (at_right r c s i)) (fast_side (at_left r c s (suc i)))
        (fast_inflow c.dry c.right (at_right r c t i)) (fast_side (at_left r c t (suc i)))
        (ap (fast_inflow c.dry c.right) q) (λ k. ap fast_side (at_left_same r c s t e (suc i) k)))

    pub too_long_same : (i : ℕ) → i < suc r.n → too_long r c s i ≡ too_long r c t i
    unfolding too_long
    too_long_same i l = ap (λ (f : Flux). lt_z (pos 4096 *ℤ r.dx) (pos 2 *ℤ c.dt *ℤ f.S)) (face_at_same r c s t e o i l)

    pub stage_checks_same : Alike (stage_checks r c s) (stage_checks r c t)
    unfolding stage_checks
    stage_checks_same = also fast_face_same (also fast_gauss_same (also too_long_same end))

-- ---- the step
module _ (r : Reach) (c : Call) (s t : State) (e : Same r s t) where
  rubbed_same : Same r (rubbed r c s) (rubbed r c t)
  unfolding rubbed
  rubbed_same i l = ap (λ (x : Cell). rubbed r c (λ j. x) i) (e i l)

  one_same : Same r (stage_one r c s) (stage_one r c t)
  unfolding stage_one
  one_same = finish_same r c (stage r c (rubbed r c s)) (stage r c (rubbed r c t))
      (stage_same r c (rubbed r c s) (rubbed r c t) rubbed_same)

  pub carry_same : 0 < r.n → (i : ℕ) → i < suc r.n → carry r c s i ≡ carry r c t i
  unfolding carry
  carry_same o i l = ap₂ (λ (f g : Flux). half (volume r.dx c.dt f) (volume r.dx c.dt g))
      (face_at_same r c (rubbed r c s) (rubbed r c t) rubbed_same o i l)
      (face_at_same r c (stage_one r c s) (stage_one r c t) one_same o i l)

  joined_same : Same r (joined r c s) (joined r c t)
  unfolding joined
  joined_same i l = let o : 0 < r.n = omega arith in λ k.
      joined_cell (rubbed_same i l k) (stage_same r c (stage_one r c s) (stage_one r c t) one_same i l k)
      (carry_same o i (omega arith) k) (carry_same o (suc i) (omega arith) k)

  pub next_same : Same r (next r c s) (next r c t)
  unfolding next
  next_same = finish_same r c (joined r c s) (joined r c t) joined_same

  fast_friction_same : (i : ℕ) → i < r.n → fast_friction r c s i ≡ fast_friction r c t i
  unfolding fast_friction
  fast_friction_same i l = ap (λ (x : Cell). fast_friction r c (λ j. x) i) (e i l)

  pub checks_same : 0 < r.n → Alike (checks r c s) (checks r c t)
  unfolding checks early stage_checks
  checks_same o =
      also (λ i l. refl) (also (λ i l. refl) (also (λ i l. refl) (also (off_same r c s t e) (also fast_friction_same
      (alike_after (stage_checks_same r c (rubbed r c s) (rubbed r c t) rubbed_same o)
      (also (off_same r c (stage_one r c s) (stage_one r c t) one_same)
      (alike_after (stage_checks_same r c (stage_one r c s) (stage_one r c t) one_same o)
      (also (off_same r c (next r c s) (next r c t) next_same) end))))))))
