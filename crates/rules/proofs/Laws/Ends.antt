-- What a row of faces asks of its ends, shown of each kind; of a wall and an open end it stands in Outer. The right end is the left one
-- seen from the other bank, so each law is shown of the left end and turned. Of the face rule only what is lawful is used.
-- Assumes nothing.
use Rattle.std.specs.Prelude.{◌≡◌, ℕ, ℤ, neg_ℤ, ◌+ℤ◌, ◌*ℤ◌, ◌≤ℤ◌}
use Rattle.std.proofs.Math.Path.{refl, ap}
use Rattle.std.proofs.Common.{sym, ◌∙◌, subst, arith}
use Rattle.std.proofs.Math.IntN.{pos}
use Rattle.whole.specs.Flags.{cond_ind}
use Rattle.whole.specs.Parts.{nat_nonneg, le_trans}
use Rattle.whole.specs.Difference.{lit, nonneg, ◌⊞◌, ⊖, ◌⊠◌, le!, none_times}
use Rattle.whole.specs.Quotient.{quot_none}
use Rattle.whole.specs.Choice.{size_z, max_l, max_r, size_nonneg}
use Rattle.rules.specs.Face.{Side, Flux, speed, wave}
use Rattle.rules.specs.Lawful.{Still, resting, mirror, Lawful}
use Rattle.rules.specs.Ends.{End, inflow_kind, is_inflow, outer, inflow_speed, inflow, left_end, right_end}
use Rattle.rules.proofs.Laws.Speeds.{wave≥0}
use Rattle.rules.proofs.Laws.Shown.{TakesRight, TakesLeft, takes_flip}
use Rattle.rules.proofs.Laws.Outer.{left_outer_takes, left_outer_still, left_outer_wall}
use Rattle.rules.proofs.Laws.EndsTurned.{right_turned}

-- ---- an inflow's top speed is at least that of what comes in, and that of a wave against the inner side
pub inflow_top : (d : ℤ) (e : End) (f : ℤ) (x : Side) → inflow_speed d e x ≤ℤ (inflow d e f x).S
unfolding inflow
inflow_top d e f x = max_l (inflow_speed d e x) (size_z x.u +ℤ wave x.h)

pub inflow_wave : (d : ℤ) (e : End) (f : ℤ) (x : Side) → (size_z x.u +ℤ wave x.h) ≤ℤ (inflow d e f x).S
unfolding inflow
inflow_wave d e f x = max_r (inflow_speed d e x) (size_z x.u +ℤ wave x.h)

pub inflow_size : (d : ℤ) (e : End) (f : ℤ) (x : Side) → pos 0 ≤ℤ (inflow d e f x).S
inflow_size d e f x = le_trans
    (le! (lit 0) (nonneg (size_nonneg x.u) ⊞ nonneg (wave≥0 x.h)) (omega arith)) (inflow_wave d e f x)

-- one whose mass runs rightward takes nothing from the side right of it
inflow_takes : (d : ℤ) (e : End) (f : ℤ) (x : Side) → pos 0 ≤ℤ f → pos 0 ≤ℤ x.h → TakesLeft x.h (inflow d e f x)
unfolding inflow
inflow_takes d e f x p h = let s = inflow_size d e f x in
    record { size = s; back = le! (⊖ (nonneg h ⊠ nonneg s)) (lit 4096 ⊠ nonneg p) (omega arith) }

-- ---- both ends, beside any lawful rule
module _ (face : Side → Side → Flux) (law : Lawful face) (d : ℤ) (e : End) where
  -- an end takes no more than its side has; an inflow takes nothing, as it only brings water in
  pub left_end_takes : (x : Side) → pos 0 ≤ℤ x.h → TakesLeft x.h (left_end face d e x)
  unfolding left_end
  left_end_takes x h = cond_ind (is_inflow e) (inflow d e (pos e.q) x) (face (outer e.kind x) x) (TakesLeft x.h)
      (λ b. inflow_takes d e (pos e.q) x (nat_nonneg e.q) h) (λ b. left_outer_takes face law e.kind x h)

  pub right_end_takes : (x : Side) → pos 0 ≤ℤ x.h → TakesRight x.h (right_end face d e x)
  right_end_takes x h = subst (TakesRight x.h) (sym (right_turned face law d e x)) (takes_flip (left_end_takes (mirror x) h))

  -- beside still water an end that brings nothing in is still
  pub left_end_still : e.q ≡ 0 → (h : ℤ) → pos 0 ≤ℤ h → Still h (left_end face d e (resting h))
  unfolding left_end inflow inflow_speed
  left_end_still z h p =
      cond_ind (is_inflow e) (inflow d e (pos e.q) (resting h)) (face (outer e.kind (resting h)) (resting h)) (Still h)
      (λ b. dammed) (λ b. left_outer_still face law e.kind h p)
    where
      dammed : Still h (inflow d e (pos e.q) (resting h))
      dammed = record {
        F≡ = ap pos z;
        K≡ = refl;
        A≡ = quot_none (pos e.q *ℤ speed d (pos e.q) h) (pos 4096)
            (ap (λ (q : ℕ). pos q *ℤ speed d (pos q) h) z ∙ none_times (speed d (pos 0) h));
      }

  pub right_end_still : e.q ≡ 0 → (h : ℤ) → pos 0 ≤ℤ h → Still h (right_end face d e (resting h))
  right_end_still z h p = let s = left_end_still z h p in
      subst (Still h) (sym (right_turned face law d e (resting h))) (record { F≡ = ap neg_ℤ s.F≡; K≡ = s.K≡; A≡ = s.A≡ })

  -- ---- the mass that crosses the left one: none at a wall, and at an inflow what is given
  pub left_wall : e.kind ≡ 0 → (x : Side) → (left_end face d e x).F ≡ pos 0
  unfolding left_end
  left_wall z x = rw z (left_outer_wall face law 0 refl x)

  pub left_inflow : e.kind ≡ inflow_kind → (x : Side) → (left_end face d e x).F ≡ pos e.q
  unfolding left_end inflow
  left_inflow z x = rw z
