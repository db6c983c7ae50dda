-- A lake at rest stays as it is, over whatever steps: its faces are a row of still water, whose depths meet by the meaning of rest itself.
-- Assumes nothing.
use Rattle.std.specs.Prelude.{◌≡◌, ℕ, suc, ◌<◌, ℤ, pos, ◌+ℤ◌, ◌-ℤ◌, ◌*ℤ◌}
use Rattle.std.proofs.Math.Path.{refl, ap}
use Rattle.std.proofs.Common.{sym, ◌∙◌, ap₂, arith}
use Rattle.whole.specs.Flags.{cond_same}
use Rattle.whole.specs.Difference.{at, lit, ◌⊟◌, ◌⊠◌, eq!, plus_none, none_times}
use Rattle.whole.specs.Quotient.{quot_none}
use Rattle.tables.specs.Pools.{Pool}
use Rattle.rules.specs.Face.{Flux, speed}
use Rattle.rules.specs.Lawful.{Still, Lawful}
use Rattle.rules.specs.Shown.{volume}
use Rattle.rules.proofs.Laws.Speeds.{speed_none}
use Rattle.rules.proofs.Laws.Friction.{after_none}
use Rattle.rules.proofs.Laws.Shown.{none_volume, QuietRow, quiet_left, quiet_right, none_crosses}
use Rattle.rules.proofs.Laws.Outer.{left_outer_still, right_outer_still}
use Rattle.sill_rules.specs.Reach.{Reach, Call, State, depth, shallow, pace, crest_left, crest_right, over, hl, hr}
use Rattle.sill_rules.specs.Step.{rubbed_pool, rubbed, shown, face_right, face_at, push, update, stage, dried_pool, dried, next, carry}
use Rattle.sill_rules.specs.AtRest.{AtRest}
use Rattle.sill_rules.proofs.Laws.Agree.{Same}
use Rattle.sill_rules.proofs.Laws.Positive.{over≥0}

pub rest_same : (r : Reach) (s t : State) → Same r t s → AtRest r s → AtRest r t
rest_same r s t e a = record {
  calm = λ i l. ap (λ (x : Pool). x.q) (e i l) ∙ a.calm i l;
  meet = λ i l. ap (over (crest_right r i)) (e i (omega arith)) ∙ a.meet i l ∙ sym (ap (over (crest_left r (suc i))) (e (suc i) l));
}

-- ---- one cell
pool_is : (x y : Pool) → x.e ≡ y.e → x.q ≡ y.q → x ≡ y
pool_is x y a b = λ j. record { e = a j; q = b j }

-- the pressures at still faces are those of the cell's own reconstructed depths
push_none : (a b : ℤ) (l f : Flux) → Still a l → Still b f → push a b l f ≡ pos 0
unfolding push
push_none a b l f p q = ap₂ (λ (x y : ℤ). (x -ℤ a *ℤ a) -ℤ (y -ℤ b *ℤ b)) p.K≡ q.K≡
    ∙ eq! (at a ⊠ at a ⊟ at a ⊠ at a ⊟ (at b ⊠ at b ⊟ at b ⊠ at b)) (lit 0) (omega arith)

-- so a cell between still faces stays
update_rest : (dx dt a b : ℤ) (x : Pool) (l f : Flux) → Still a l → Still b f → update dx dt a b x l f ≡ x
unfolding update
update_rest dx dt a b x l f p q = pool_is (update dx dt a b x l f) x
    (ap₂ (λ (v w : ℤ). x.e +ℤ v -ℤ w) (none_volume dx dt l p.F≡) (none_volume dx dt f q.F≡)
    ∙ plus_none (x.e +ℤ pos 0) ∙ plus_none x.e)
    (ap₂ (λ (v w : ℤ). x.q +ℤ v +ℤ w)
    (quot_none ((l.A -ℤ f.A) *ℤ dt) dx (rw (p.A≡, q.A≡) (none_times dt)))
    (quot_none (pos 981 *ℤ push a b l f *ℤ dt) (pos 819200 *ℤ dx) (rw (push_none a b l f p q) (none_times dt)))
    ∙ plus_none (x.q +ℤ pos 0) ∙ plus_none x.q)

-- ---- a reach at rest
module _ (r : Reach) (law : Lawful r.face) (c : Call) (s : State) (a : AtRest r s) where
  no_pace : (i : ℕ) → i < r.n → pace c.dry (r.bed i) (s i) ≡ pos 0
  unfolding pace
  no_pace i l = let h = depth (r.bed i) (s i) in ap (λ (q : ℤ). speed c.dry q h) (a.calm i l) ∙ speed_none c.dry h

  quiet : QuietRow (shown r c s) (hl r s) (hr r s)
  quiet = record {
    law = law;
    left = left_outer_still r.face law c.left;
    right = right_outer_still r.face law c.right;
    to_left = λ i l. λ j. record { h = hl r s i; u = no_pace i l j };
    to_right = λ i l. λ j. record { h = hr r s i; u = no_pace i l j };
    a≥0 = λ i l. over≥0 (crest_left r i) (s i);
    b≥0 = λ i l. over≥0 (crest_right r i) (s i);
    meet = a.meet;
  }

  stage_rest : Same r (stage r c s) s
  unfolding stage
  stage_rest i l = update_rest r.dx c.dt (hl r s i) (hr r s i) (s i) (face_at r c s i) (face_right r c s i)
      (quiet_left (shown r c s) (hl r s) (hr r s) quiet i l) (quiet_right (shown r c s) (hl r s) (hr r s) quiet i l)

  face_none : 0 < r.n → (i : ℕ) → i < suc r.n → volume r.dx c.dt (face_at r c s i) ≡ pos 0
  face_none = none_crosses (shown r c s) (hl r s) (hr r s) quiet r.dx c.dt

-- friction and drying change no discharge that is none
module _ (r : Reach) (c : Call) (s : State) (a : AtRest r s) where
  rubbed_rest : Same r (rubbed r c s) s
  unfolding rubbed rubbed_pool
  rubbed_rest i l = let q = (s i).q in pool_is (rubbed r c s i) (s i) refl
      (after_none c.dt c.dry (c.rough i) (depth (r.bed i) (s i)) q q (a.calm i l))

  dried_rest : Same r (dried r c s) s
  unfolding dried dried_pool
  dried_rest i l = let q = (s i).q in pool_is (dried r c s i) (s i) refl
      (cond_same (shallow c.dry (r.bed i) (s i)) (pos 0) q q (sym (a.calm i l)) refl)

  rubbed_at : AtRest r (rubbed r c s)
  rubbed_at = rest_same r s (rubbed r c s) rubbed_rest a

-- ---- the step
module _ (r : Reach) (law : Lawful r.face) (c : Call) (s : State) (a : AtRest r s) where
  staged : Same r (stage r c (rubbed r c s)) s
  staged i l = stage_rest r law c (rubbed r c s) (rubbed_at r c s a) i l ∙ rubbed_rest r c s a i l

  -- a lake at rest keeps every number
  pub next_rest : Same r (next r c s) s
  unfolding next
  next_rest i l = let t = stage r c (rubbed r c s) in dried_rest r c t (rest_same r s t staged a) i l ∙ staged i l

  -- and nothing crosses any face
  pub carry_none : 0 < r.n → (i : ℕ) → i < suc r.n → carry r c s i ≡ pos 0
  unfolding carry
  carry_none = face_none r law c (rubbed r c s) (rubbed_at r c s a)
