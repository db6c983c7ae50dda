-- The correction that E6 took out did nothing: no face level lay below the bed in a state that a stage started from.
-- Assumes nothing.
use Rattle.std.specs.Prelude.{◌≡◌, refl, ℕ, ◌<◌, ℤ, pos, ◌+ℤ◌, ◌-ℤ◌, ◌*ℤ◌, ◌≤ℤ◌}
use Rattle.std.specs.Int.Signed.{quot_z}
use Rattle.whole.specs.Difference.{plus_none}
use Rattle.whole.specs.Choice.{max_none}
use Rattle.tables.specs.Cells.{Cell}
use Rattle.rules.specs.Face.{Flux, speed}
use Rattle.rules.specs.Reach as reach
use Rattle.rules.specs.Reach.{Reach, Call, Bed, under, ql, qr, hl, hr}
use Rattle.rules.specs.Stage as rules
use Rattle.rules.specs.Step.{rubbed}
use Rattle.rules.specs.Refusals.{bad_call, Clear}
use Rattle.rules.specs.Lent.{Lent, cells_of, reach_of, call_of}
use Rattle.rules.proofs.Laws.Positive.{Nonneg, rubbed_wet}
use Rattle.before.specs.E7 as E7
use Rattle.before.specs.E7.{state_of}
use Rattle.before.specs.E6.{short, depth, grounded, side_l, side_r, push, update, parts, step_of, checks_to_five, checks_of_one, stage_one}
use Rattle.before.proofs.Laws.Parts.{AsInForce, wet_now, wet_one, as_before}

-- ---- the shortfall is nought
no_short : (h : ℤ) → pos 0 ≤ℤ h → short h ≡ pos 0
unfolding short
no_short h k = max_none h k

pub record NoShortfall (b : Bed) (x : Cell) : Type 0 where
  pub left : short (hl b x) ≡ pos 0
  pub right : short (hr b x) ≡ pos 0

covered : {b : Bed} {x : Cell} → Nonneg b x → NoShortfall b x
covered {b} {x} n = record { left = no_short (hl b x) n.left; right = no_short (hr b x) n.right }

-- at every face: after friction, where the call passed the checks up to 5, and after stage one, where it passed those up to its 8
module _ (a : Lent) where
  pub none_short_one : Clear (checks_to_five a) → (i : ℕ) → i < cells_of a
      → NoShortfall (under (reach_of a) i) (rubbed (reach_of a) (call_of a) (state_of a) i)
  none_short_one q i l = covered (rubbed_wet (reach_of a) (call_of a) (state_of a) (wet_now bad_call a q) i l)

  pub none_short_two : Clear (checks_of_one a) → (i : ℕ) → i < cells_of a → NoShortfall (under (reach_of a) i) (stage_one a i)
  none_short_two q i l = covered (wet_one parts (reach_of a) (call_of a) (state_of a) q i l)

-- ---- so depth and bed are as they are without it
module _ (h : ℤ) (k : pos 0 ≤ℤ h) where
  depth_is : depth h ≡ h
  unfolding depth
  depth_is = rw (no_short h k) (plus_none h)

  ground_is : (z : ℤ) → grounded z h ≡ z
  unfolding grounded
  ground_is z = rw (no_short h k) (plus_none z)

push_is : (b : Bed) (x : Cell) → Nonneg b x → (l f : Flux) → push b x l f ≡ rules.push b x l f
unfolding push rules.push
push_is b x n l f = λ j. l.K -ℤ f.K -ℤ (depth_is (hr b x) n.right j +ℤ depth_is (hl b x) n.left j)
    *ℤ (ground_is (hr b x) n.right b.zr j -ℤ ground_is (hl b x) n.left b.zl j)

pub as_in_force : (r : Reach) (c : Call) → AsInForce parts r c
unfolding side_l side_r reach.side_l reach.side_r update rules.update
as_in_force r c = record {
  side_l = λ b x n. let e = depth_is (hl b x) n.left in λ j. record { h = e j; u = speed c.dry (ql x) (e j) };
  side_r = λ b x n. let e = depth_is (hr b x) n.right in λ j. record { h = e j; u = speed c.dry (qr x) (e j) };
  left = λ x. refl;
  right = λ x. refl;
  fast_left = λ x. refl;
  fast_right = λ x. refl;
  update = λ b x n l f. let y = rules.update r.dx c.dt c.dry b x l f in λ j. record {
    e0 = y.e0;
    e1 = y.e1;
    q0 = x.q0 +ℤ quot_z ((l.A -ℤ f.A) *ℤ c.dt) r.dx
        +ℤ quot_z (pos 981 *ℤ push_is b x n l f j *ℤ c.dt) (pos 819200 *ℤ r.dx);
    q1 = y.q1;
  };
}

-- ---- and every call is answered before E7 as it was with it: the same number, or the same table and volumes
pub uncorrected : (a : Lent) → E7.step_of a ≡ step_of a
uncorrected a = as_before bad_call parts a refl (as_in_force (reach_of a) (call_of a))
