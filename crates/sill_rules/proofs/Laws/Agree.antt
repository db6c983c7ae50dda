-- States that agree in the reach give one answer: the working tables hold no more than the n cells.
-- Assumes nothing.
use Rattle.std.specs.Prelude.{◌≡◌, refl, not, ◌&&◌, eqb}
use Rattle.std.proofs.Common.{◌∙◌}
use Rattle.std.proofs.Math.Path.{ap, ap₂}
use Rattle.std.proofs.Math.Bool.{◌||◌}
use Prim.Native.Nat.{ℕ, zero, suc, ◌<◌}
use native.Mathlib.Omega.{arith}
use Rattle.whole.specs.Flags.{by}
use Rattle.tables.specs.Pools.{Pool}
use Rattle.rules.specs.Shown.{volume}
use Rattle.rules.specs.Refusals.{fast_side, is_long}
use Rattle.rules.proofs.Laws.Shown.{inside, right_same, at_same}
use Rattle.rules.proofs.Laws.Alike.{Alike, end, also}
use Rattle.sill_rules.specs.Reach.{Reach, Call, State, hl, hr, at_left, at_right}
use Rattle.sill_rules.specs.Step.{rubbed, shown, face_right, face_at, update, stage, dried, next, carry}
use Rattle.sill_rules.specs.Refusals.{off, fast_friction, fast_face, too_long, early, checks}

abbrev pub Same : Reach → State → State → Type 0
Same r s t = (i : ℕ) → i < r.n → s i ≡ t i

module _ (r : Reach) (c : Call) (s t : State) (e : Same r s t) where
  -- ---- a stage
  at_left_same : (i : ℕ) → i < r.n → at_left r c s i ≡ at_left r c t i
  at_left_same i l = ap (λ (x : Pool). at_left r c (λ j. x) i) (e i l)

  at_right_same : (i : ℕ) → i < r.n → at_right r c s i ≡ at_right r c t i
  at_right_same i l = ap (λ (x : Pool). at_right r c (λ j. x) i) (e i l)

  pub face_right_same : (i : ℕ) → i < r.n → face_right r c s i ≡ face_right r c t i
  face_right_same = right_same (shown r c s) (at_left r c t) (at_right r c t) at_left_same at_right_same

  pub face_at_same : 0 < r.n → (i : ℕ) → i < suc r.n → face_at r c s i ≡ face_at r c t i
  face_at_same = at_same (shown r c s) (at_left r c t) (at_right r c t) at_left_same at_right_same

  pub stage_same : Same r (stage r c s) (stage r c t)
  unfolding stage
  stage_same i l =
      ap (λ (x : Pool). update r.dx c.dt (hl r (λ j. x) i) (hr r (λ j. x) i) x (face_at r c s i) (face_right r c s i)) (e i l)
      ∙ ap₂ (update r.dx c.dt (hl r t i) (hr r t i) (t i)) (face_at_same (omega arith) i (omega arith)) (face_right_same i l)

  -- ---- what is done to a cell by itself
  pub rubbed_same : Same r (rubbed r c s) (rubbed r c t)
  unfolding rubbed
  rubbed_same i l = ap (λ (x : Pool). rubbed r c (λ j. x) i) (e i l)

  dried_same : Same r (dried r c s) (dried r c t)
  unfolding dried
  dried_same i l = ap (λ (x : Pool). dried r c (λ j. x) i) (e i l)

  -- ---- refusals
  fast_friction_same : (i : ℕ) → i < r.n → fast_friction r c s i ≡ fast_friction r c t i
  unfolding fast_friction
  fast_friction_same i l = ap (λ (x : Pool). fast_friction r c (λ j. x) i) (e i l)

  fast_face_same : 0 < r.n → (i : ℕ) → i < suc r.n → fast_face r c s i ≡ fast_face r c t i
  unfolding fast_face
  fast_face_same o zero l = ap fast_side (at_left_same zero o)
  fast_face_same o (suc i) l = let m : i < r.n = omega arith in ap₂ ◌||◌ (ap fast_side (at_right_same i m)) (next_one i m)
    where
      -- the last face has no cell right of it
      next_one : (i : ℕ) → i < r.n
          → (not (eqb (suc i) r.n) && fast_side (at_left r c s (suc i))) ≡ (not (eqb (suc i) r.n) && fast_side (at_left r c t (suc i)))
      next_one i m = by (eqb (suc i) r.n) (λ d. rw d)
          (λ d. rw d (ap fast_side (at_left_same (suc i) (inside i r.n m d))))

  pub too_long_same : 0 < r.n → (i : ℕ) → i < suc r.n → too_long r c s i ≡ too_long r c t i
  unfolding too_long
  too_long_same o i l = ap (is_long r.dx c.dt) (face_at_same o i l)

pub off_same : (r : Reach) (s t : State) → Same r s t → (i : ℕ) → i < r.n → off r s i ≡ off r t i
unfolding off
off_same r s t e i l = ap (λ (x : Pool). off r (λ j. x) i) (e i l)

-- ---- the step
module _ (r : Reach) (c : Call) (s t : State) (e : Same r s t) where
  pub next_same : Same r (next r c s) (next r c t)
  unfolding next
  next_same = let staged = stage_same r c (rubbed r c s) (rubbed r c t) (rubbed_same r c s t e) in
      dried_same r c (stage r c (rubbed r c s)) (stage r c (rubbed r c t)) staged

  pub carry_same : 0 < r.n → (i : ℕ) → i < suc r.n → carry r c s i ≡ carry r c t i
  unfolding carry
  carry_same o i l = ap (volume r.dx c.dt) (face_at_same r c (rubbed r c s) (rubbed r c t) (rubbed_same r c s t e) o i l)

  pub checks_same : 0 < r.n → Alike (checks r c s) (checks r c t)
  unfolding checks early
  checks_same o = let m = rubbed_same r c s t e in
      also (λ i l. refl) (also (λ i l. refl) (also (λ i l. refl) (also (off_same r s t e) (also (fast_friction_same r c s t e)
      (also (fast_face_same r c (rubbed r c s) (rubbed r c t) m o) (also (too_long_same r c (rubbed r c s) (rubbed r c t) m o)
      (also (off_same r (next r c s) (next r c t) next_same) end)))))))
