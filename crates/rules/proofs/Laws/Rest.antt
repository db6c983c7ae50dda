-- A lake at rest stays as it is, where no water is brought in: its faces are a row of still water.
-- Assumes nothing.
use Rattle.std.specs.Prelude.{◌≡◌, false, cond, [], ◌∷◌, ◌⊎◌, eqb, ℤ, neg_ℤ, ◌-ℤ◌, ◌*ℤ◌, ◌≤ℤ◌}
use Rattle.std.proofs.Math.Path.{refl, sym, ap, ap₂}
use Rattle.std.proofs.Common.{◌∙◌, subst, ⊎_elim}
use Rattle.std.proofs.Math.Logic.{inl, inr}
use Prim.Native.Nat.{ℕ, zero, suc, ◌<◌}
use native.Mathlib.Omega.{arith}
use Rattle.std.proofs.Math.IntN.{pos, ◌+ℤ◌}
use Rattle.std.specs.Int.Signed.{le_z}
use Rattle.whole.specs.Flags.{cond_same, by}
use Rattle.whole.specs.Parts.{of_le, of_eq}
use Rattle.whole.specs.Difference.{at, lit, ◌⊞◌, ◌⊟◌, ⊖, ◌⊠◌, le!, eq!, le?, eq?, plus_none, times_none, none_times}
use Rattle.whole.specs.Ring.{v, k, ◌⊕◌, ◌⊗◌, ◌⊝◌, solve}
use Rattle.whole.specs.Quotient.{quot_none}
use Rattle.whole.specs.Tests.{no_lt}
use Rattle.whole.specs.Choice.{size_z, size_of}
use Rattle.tables.specs.Cells.{Cell}
use Rattle.rules.specs.Face.{Side, Flux, speed}
use Rattle.rules.specs.Lawful.{Still, resting, Lawful}
use Rattle.rules.specs.Reach.{Reach, Call, State, el, er, ql, qr, Bed, under, z0, z1, h0, h1, hl, hr, side_l, side_r}
use Rattle.rules.specs.Shown.{volume}
use Rattle.rules.specs.Stage.{at_left, at_right, shown, face_right, face_at, share}
use Rattle.rules.specs.Stage.{depth_before, depth_behind, carried, gauss, push, tilt, update, stage}
use Rattle.rules.specs.Finishing.{parted, marked, is_limited, limit, beyond, clipped, cut, dried, finish}
use Rattle.rules.specs.Step.{rubbed, stage_one, half, carry, joined_cell, joined, next}
use Rattle.rules.specs.AtRest.{Dry, Flat, Calm, AtRest}
use Rattle.rules.proofs.Laws.Speeds.{speed_none}
use Rattle.rules.specs.Laws.Agree.{Same}
use Rattle.rules.proofs.Laws.Shown.{inside, none_volume, QuietRow, quiet_left, quiet_right, none_crosses}
use Rattle.rules.proofs.Laws.Ends.{left_end_still, right_end_still}
use Rattle.rules.proofs.Laws.EvenBed.{EvenBed, hl_is, hr_is}
use Rattle.rules.proofs.Laws.Friction.{rubbed_calm}
use Rattle.rules.proofs.Laws.Balance.{half_same}
use Rattle.rules.proofs.Laws.Positive.{Nonneg}
use Rattle.rules.specs.Laws.Rest.{NoInflow}

pub rest_same : (r : Reach) (s t : State) → Same r t s → AtRest r s → AtRest r t
rest_same r s t e a = record {
  calm = λ i l. subst Calm (sym (e i l)) (a.calm i l);
  cell = λ i l. subst (λ (x : Cell). Dry (under r i) x ⊎ Flat (under r i) x) (sym (e i l)) (a.cell i l);
  level = λ i l. ap er (e i (omega arith)) ∙ a.level i l ∙ sym (ap el (e (suc i) l));
}

-- ---- small facts
cell_is : (x y : Cell) → x.e0 ≡ y.e0 → x.e1 ≡ y.e1 → x.q0 ≡ y.q0 → x.q1 ≡ y.q1 → x ≡ y
cell_is x y a b c d = λ j. record { e0 = a j; e1 = b j; q0 = c j; q1 = d j }

-- a side of depth h with no discharge
side_calm : (d q h : ℤ) → q ≡ pos 0 → ◌≡◌ {A = Side} (record { h = h; u = speed d q h }) (resting h)
side_calm d q h e = rw (e, speed_none d h)

zero_left : (b : Bed) (x : Cell) → Dry b x → hl b x ≡ pos 0
unfolding hl h0 h1
zero_left b x d = eq! (at x.e0 ⊟ at (z0 b) ⊟ (at x.e1 ⊟ at (z1 b))) (lit 0) (omega (arith, of_eq d.mean, of_eq d.slope))

zero_right : (b : Bed) (x : Cell) → Dry b x → hr b x ≡ pos 0
unfolding hr h0 h1
zero_right b x d = eq! (at x.e0 ⊟ at (z0 b) ⊞ (at x.e1 ⊟ at (z1 b))) (lit 0) (omega (arith, of_eq d.mean, of_eq d.slope))

-- the bed holds the pressure: a² - c² against (c + a)·d, where the bed falls by d = a - c between the depths a and c
push_alg : (a c ka kc d : ℤ) → ka ≡ a *ℤ a → kc ≡ c *ℤ c → (d ≡ a -ℤ c) ⊎ ((a ≡ pos 0) × (c ≡ pos 0)) → ka -ℤ kc -ℤ (c +ℤ a) *ℤ d ≡ pos 0
push_alg a c ka kc d p q f = ⊎_elim
    (λ e. ap (λ (z : ℤ). ka -ℤ kc -ℤ (c +ℤ a) *ℤ z) e ∙ ap₂ (λ (x y : ℤ). x -ℤ y -ℤ (c +ℤ a) *ℤ (a -ℤ c)) p q
    ∙ eq! (at a ⊠ at a ⊟ at c ⊠ at c ⊟ (at c ⊞ at a) ⊠ (at a ⊟ at c)) (lit 0) (omega arith))
    (λ e. rw (p, q, e.0, e.1) (eq! (lit 0 ⊟ lit 0 ⊠ at d) (lit 0) (omega arith))) f

-- and the slope's share: of depth mean m and slope d over a bed of slope z it is 4·d·(d + z)
tilt_alg : (m d z ka kc : ℤ) → ka ≡ (m -ℤ d) *ℤ (m -ℤ d) → kc ≡ (m +ℤ d) *ℤ (m +ℤ d) → (d ≡ pos 0) ⊎ (d +ℤ z ≡ pos 0)
    → pos 3 *ℤ kc +ℤ pos 3 *ℤ ka -ℤ pos 6 *ℤ (m *ℤ m) -ℤ pos 2 *ℤ (d *ℤ d) +ℤ pos 4 *ℤ (d *ℤ z) ≡ pos 0
tilt_alg m d z ka kc p q c =
    ap₂ (λ (a b : ℤ). pos 3 *ℤ a +ℤ pos 3 *ℤ b -ℤ pos 6 *ℤ (m *ℤ m) -ℤ pos 2 *ℤ (d *ℤ d) +ℤ pos 4 *ℤ (d *ℤ z)) q p
    ∙ solve (m ∷ d ∷ z ∷ []) (k (pos 3) ⊗ ((v 0 ⊕ v 1) ⊗ (v 0 ⊕ v 1)) ⊕ k (pos 3) ⊗ ((v 0 ⊝ v 1) ⊗ (v 0 ⊝ v 1)) ⊝ k (pos 6) ⊗ (v 0 ⊗ v 0)
    ⊝ k (pos 2) ⊗ (v 1 ⊗ v 1) ⊕ k (pos 4) ⊗ (v 1 ⊗ v 2))
    (k (pos 4) ⊗ (v 1 ⊗ (v 1 ⊕ v 2))) tt
    ∙ ap (λ (t : ℤ). pos 4 *ℤ t)
    (⊎_elim (λ e. ap (λ (t : ℤ). t *ℤ (d +ℤ z)) e ∙ none_times (d +ℤ z)) (λ e. ap (λ (t : ℤ). d *ℤ t) e ∙ times_none d) c)

-- ---- a reach at rest
module _ (r : Reach) (ev : EvenBed r) (s : State) (a : AtRest r s) where
  -- no depth is below nought
  pub rest_wet : (i : ℕ) → i < r.n → Nonneg (under r i) (s i)
  rest_wet i l = let x = s i in ⊎_elim
      (λ d. record {
        left = subst (λ (z : ℤ). pos 0 ≤ℤ z) (sym (zero_left (under r i) x d)) (le! (lit 0) (lit 0) (omega arith));
        right = subst (λ (z : ℤ). pos 0 ≤ℤ z) (sym (zero_right (under r i) x d)) (le! (lit 0) (lit 0) (omega arith));
      })
      (λ f. record {
        left = subst (λ (z : ℤ). pos 0 ≤ℤ z) (sym (hl_is r ev i l x))
            (le! (lit 0) (at x.e0 ⊟ at x.e1 ⊟ at (r.bed i)) (omega (arith, of_le f.left, of_eq f.slope)));
        right = subst (λ (z : ℤ). pos 0 ≤ℤ z) (sym (hr_is r ev i l x))
            (le! (lit 0) (at x.e0 ⊞ at x.e1 ⊟ at (r.bed (suc i))) (omega (arith, of_le f.right, of_eq f.slope)));
      })
      (a.cell i l)

  -- the two depths at an inner face are one
  pub meet : (i : ℕ) → suc i < r.n → hr (under r i) (s i) ≡ hl (under r (suc i)) (s (suc i))
  meet i l = hr_is r ev i (omega arith) (s i) ∙ ap (λ (z : ℤ). z -ℤ r.bed (suc i)) (a.level i l) ∙ sym (hl_is r ev (suc i) l (s (suc i)))

  module _ (law : Lawful r.face) (c : Call) (shut : NoInflow c) where
    pub side_l_rest : (i : ℕ) → i < r.n → at_left r c s i ≡ resting (hl (under r i) (s i))
    unfolding side_l
    side_l_rest i l = side_calm c.dry (ql (s i)) (hl (under r i) (s i))
        (eq! (at (s i).q0 ⊟ at (s i).q1) (lit 0) (omega (arith, of_eq (a.calm i l).q0, of_eq (a.calm i l).q1)))

    pub side_r_rest : (i : ℕ) → i < r.n → at_right r c s i ≡ resting (hr (under r i) (s i))
    unfolding side_r
    side_r_rest i l = side_calm c.dry (qr (s i)) (hr (under r i) (s i))
        (eq! (at (s i).q0 ⊞ at (s i).q1) (lit 0) (omega (arith, of_eq (a.calm i l).q0, of_eq (a.calm i l).q1)))

    -- its row is one of still water, so nothing flows
    abbrev lefts : ℕ → ℤ
    lefts i = hl (under r i) (s i)

    abbrev rights : ℕ → ℤ
    rights i = hr (under r i) (s i)

    quiet : QuietRow (shown r c s) lefts rights
    quiet = record {
      law = law;
      left = left_end_still r.face law c.dry c.left shut.left;
      right = right_end_still r.face law c.dry c.right shut.right;
      to_left = side_l_rest;
      to_right = side_r_rest;
      a≥0 = λ i l. (rest_wet i l).left;
      b≥0 = λ i l. (rest_wet i l).right;
      meet = meet;
    }

    abbrev still_volume : {h : ℤ} {f : Flux} → Still h f → volume r.dx c.dt f ≡ pos 0
    still_volume {h} {f} p = none_volume r.dx c.dt f p.F≡

    push_none : (i : ℕ) → i < r.n → (l f : Flux) → Still (hl (under r i) (s i)) l → Still (hr (under r i) (s i)) f
        → push (under r i) (s i) l f ≡ pos 0
    unfolding push
    push_none i m l f p q =
        let x = s i in let d = hl (under r i) x in let e = hr (under r i) x in let zl = r.bed i in let zr = r.bed (suc i) in
        push_alg d e l.K f.K (zr -ℤ zl) p.K≡ q.K≡
        (⊎_elim (λ y. inr (zero_left (under r i) x y, zero_right (under r i) x y))
        (λ g. inl (eq! (at zr ⊟ at zl) (at d ⊟ at e)
        (omega (
          arith,
          of_eq g.slope,
          eq? (at d) (at x.e0 ⊟ at x.e1 ⊟ at zl) (hl_is r ev i m x),
          eq? (at e) (at x.e0 ⊞ at x.e1 ⊟ at zr) (hr_is r ev i m x),
        ))))
        (a.cell i m))

    tilt_none : (i : ℕ) → i < r.n → (l f : Flux) → Still (hl (under r i) (s i)) l → Still (hr (under r i) (s i)) f
        → tilt (under r i) (s i) l f ≡ pos 0
    unfolding tilt hl hr h1
    tilt_none i m l f p q = let x = s i in tilt_alg (h0 (under r i) x) (h1 (under r i) x) (z1 (under r i)) l.K f.K p.K≡ q.K≡
        (⊎_elim (λ d. inl (eq! (at x.e1 ⊟ at (z1 (under r i))) (lit 0) (omega (arith, of_eq d.slope))))
        (λ g. inr (eq! (at x.e1 ⊟ at (z1 (under r i)) ⊞ at (z1 (under r i))) (lit 0) (omega (arith, of_eq g.slope))))
        (a.cell i m))

    carried_none : (h : ℤ) → carried c.dry (pos 0) h ≡ pos 0
    unfolding carried
    carried_none h = quot_none (pos 0 *ℤ speed c.dry (pos 0) h) (pos 4096) (none_times (speed c.dry (pos 0) h))

    gauss_none : (i : ℕ) (x : Cell) → Calm x → gauss c.dry (under r i) x ≡ pos 0
    unfolding gauss share h0 h1
    gauss_none i x m = rw (m.q0, m.q1) (ap₂ ◌+ℤ◌ (carried_none (depth_before (under r i) x)) (carried_none (depth_behind (under r i) x)))

    -- a cell between still faces stays
    update_rest : (i : ℕ) → i < r.n → (l f : Flux) → Still (hl (under r i) (s i)) l → Still (hr (under r i) (s i)) f
        → update r.dx c.dt c.dry (under r i) (s i) l f ≡ s i
    unfolding update
    update_rest i m l f p q = let x = s i in let y = update r.dx c.dt c.dry (under r i) x l f in let w = a.calm i m in
        cell_is y x
        (ap₂ (λ (a b : ℤ). x.e0 +ℤ a -ℤ b) (still_volume p) (still_volume q) ∙ plus_none (x.e0 +ℤ pos 0) ∙ plus_none x.e0)
        (ap (λ (z : ℤ). x.e1 -ℤ z) (quot_none (pos 3 *ℤ (f.F +ℤ l.F -ℤ pos 2 *ℤ x.q0) *ℤ c.dt) r.dx
        (rw (p.F≡, q.F≡, w.q0) (none_times c.dt))) ∙ plus_none x.e1)
        (ap₂ (λ (a b : ℤ). x.q0 +ℤ a +ℤ b)
        (quot_none ((l.A -ℤ f.A) *ℤ c.dt) r.dx (rw (p.A≡, q.A≡) (none_times c.dt)))
        (quot_none (pos 981 *ℤ push (under r i) x l f *ℤ c.dt) (pos 819200 *ℤ r.dx) (rw (push_none i m l f p q) (none_times c.dt)))
        ∙ plus_none (x.q0 +ℤ pos 0) ∙ plus_none x.q0)
        (ap₂ (λ (a b : ℤ). x.q1 -ℤ a -ℤ b)
        (quot_none (pos 3 *ℤ (f.A +ℤ l.A -ℤ gauss c.dry (under r i) x) *ℤ c.dt) r.dx
        (rw (p.A≡, q.A≡, gauss_none i x w) (none_times c.dt)))
        (quot_none (pos 981 *ℤ tilt (under r i) x l f *ℤ c.dt) (pos 819200 *ℤ r.dx) (rw (tilt_none i m l f p q) (none_times c.dt)))
        ∙ plus_none (x.q1 +ℤ pos 0) ∙ plus_none x.q1)

    pub stage_rest : Same r (stage r c s) s
    unfolding stage
    stage_rest i l =
        update_rest i l (face_at r c s i) (face_right r c s i) (quiet_left (shown r c s) lefts rights quiet i l)
        (quiet_right (shown r c s) lefts rights quiet i l)

    -- ---- finishing
    parted_none : pos 0 ≤ℤ c.jump → (i : ℕ) → i < r.n → parted r c s i ≡ false
    unfolding parted
    parted_none j i l = by (eqb (suc i) r.n) (λ e. rw e) (λ e. rw e (no_lt c.jump (size_z (el (s (suc i)) -ℤ er (s i)))
        (subst (λ (z : ℤ). z ≤ℤ c.jump) (sym (level_none i (inside i r.n l e))) j)))
      where
        level_none : (i : ℕ) → suc i < r.n → size_z (el (s (suc i)) -ℤ er (s i)) ≡ pos 0
        level_none i l = let p = el (s (suc i)) in let q = er (s i) in
            ap size_z (eq! (at p ⊟ at q) (lit 0) (omega (arith, of_eq (a.level i l)))) ∙ size_of (pos 0) (le! (lit 0) (lit 0) (omega arith))

    unmarked : pos 0 ≤ℤ c.jump → (i : ℕ) → i < r.n → marked r c s i ≡ false
    unfolding marked
    unmarked j zero l = parted_none j zero l
    unmarked j (suc i) l = rw (parted_none j i (omega arith)) (parted_none j (suc i) l)

    unlimited : pos 0 ≤ℤ c.jump → (i : ℕ) → i < r.n → is_limited r c s i ≡ false
    unfolding is_limited
    unlimited j i l = rw (unmarked j i l)

    pub finish_rest : pos 0 ≤ℤ c.jump → Same r (finish r c s) s
    unfolding finish dried cut limit clipped hl hr h1
    finish_rest j i l = let x = s i in let m = h0 (under r i) x in let d = h1 (under r i) x in let w = a.calm i l in
        rw (unlimited j i l)
        (cell_is (dried c.dry (under r i) (cut (under r i) x)) x
        refl
        (rw (
          no_lt m d (le! (at d) (at m) (omega (arith, le? (lit 0) (at m ⊟ at d) (rest_wet i l).left))),
          no_lt d (neg_ℤ m) (le! (⊖ (at m)) (at d) (omega (arith, le? (lit 0) (at m ⊞ at d) (rest_wet i l).right))),
        )
        (eq! (at x.e1 ⊟ at (z1 (under r i)) ⊞ at (z1 (under r i))) (at x.e1) (omega arith)))
        (cond_same (le_z (h0 (under r i) (cut (under r i) x)) c.dry) (pos 0) x.q0 x.q0 (sym w.q0) refl)
        (cond_same (le_z (h0 (under r i) (cut (under r i) x)) c.dry) (pos 0) (cond (beyond m d) (pos 0) x.q1) x.q1 (sym w.q1)
        (cond_same (beyond m d) (pos 0) x.q1 x.q1 (sym w.q1) refl)))

    -- ---- friction
    pub rubbed_rest : Same r (rubbed r c s) s
    unfolding rubbed
    rubbed_rest i l = rubbed_calm _ _ _ _ (s i) (a.calm i l)

    pub face_none : 0 < r.n → (i : ℕ) → i < suc r.n → volume r.dx c.dt (face_at r c s i) ≡ pos 0
    face_none = none_crosses (shown r c s) lefts rights quiet r.dx c.dt

-- ---- the step
module _ (r : Reach) (law : Lawful r.face) (ev : EvenBed r) (n>0 : 0 < r.n) (c : Call) (shut : NoInflow c) (j : pos 0 ≤ℤ c.jump)
    (s : State) (a : AtRest r s) where
  pub rubbed_at : AtRest r (rubbed r c s)
  rubbed_at = rest_same r s (rubbed r c s) (rubbed_rest r ev s a law c shut) a

  staged : Same r (stage r c (rubbed r c s)) s
  staged i l = stage_rest r ev (rubbed r c s) rubbed_at law c shut i l ∙ rubbed_rest r ev s a law c shut i l

  pub stage_one_rest : Same r (stage_one r c s) s
  unfolding stage_one
  stage_one_rest i l = finish_rest r ev (stage r c (rubbed r c s)) (rest_same r s (stage r c (rubbed r c s)) staged a) law c shut j i l
      ∙ staged i l

  pub stage_one_at : AtRest r (stage_one r c s)
  stage_one_at = rest_same r s (stage_one r c s) stage_one_rest a

  -- nothing crosses any face
  pub carry_none : (i : ℕ) → i < suc r.n → carry r c s i ≡ pos 0
  unfolding carry half
  carry_none i l =
      ap₂ half (face_none r ev (rubbed r c s) rubbed_at law c shut n>0 i l) (face_none r ev (stage_one r c s) stage_one_at law c shut n>0 i l)

  joined_rest : Same r (joined r c s) s
  unfolding joined joined_cell
  joined_rest i l =
      let x = rubbed r c s i in let y = stage r c (stage_one r c s) i in
      let e : y ≡ x = stage_rest r ev (stage_one r c s) stage_one_at law c shut i l ∙ stage_one_rest i l
      ∙ sym (rubbed_rest r ev s a law c shut i l) in
      cell_is (joined r c s i) x
      (ap₂ (λ (p q : ℤ). x.e0 +ℤ p -ℤ q) (carry_none i (omega arith)) (carry_none (suc i) (omega arith)) ∙ plus_none (x.e0 +ℤ pos 0)
      ∙ plus_none x.e0)
      (ap (λ (z : Cell). half x.e1 z.e1) e ∙ half_same x.e1)
      (ap (λ (z : Cell). half x.q0 z.q0) e ∙ half_same x.q0)
      (ap (λ (z : Cell). half x.q1 z.q1) e ∙ half_same x.q1)
      ∙ rubbed_rest r ev s a law c shut i l

  -- a lake at rest keeps every number
  pub next_rest : Same r (next r c s) s
  unfolding next
  next_rest i l = finish_rest r ev (joined r c s) (rest_same r s (joined r c s) joined_rest a) law c shut j i l ∙ joined_rest i l
