-- What friction leaves: a shallow cell and one that has no discharge as they are, and of any other its slowed discharge. It never turns a
-- discharge or adds to it.
-- Assumes nothing.
use Rattle.std.specs.Prelude.{◌≡◌, refl, true, false, ℕ, suc, ◌*◌, ◌/◌, ◌≤◌, ℤ, pos, negsuc, nat_abs, ◌+ℤ◌, ◌*ℤ◌, ◌≤ℤ◌}
use Rattle.std.proofs.Common.{sym, ◌∙◌, ap, arith}
use Rattle.std.proofs.Math.Nat as NatL
use Rattle.std.specs.Int.Signed.{le_z}
use Rattle.whole.specs.Flags.{cond_ind, cond_same}
use Rattle.whole.specs.Parts.{abs_mul, lt_le, le_lt_trans, le_trans, nat_nonneg}
use Rattle.whole.specs.Difference.{none_times, mul_nonneg}
use Rattle.whole.specs.Quotient.{quot_none, quot_nonneg, abs_quot, share_le}
use Rattle.whole.specs.Tests.{le_no}
use Rattle.whole.specs.Choice.{size_z, size_nonneg}
use Rattle.tables.specs.Cells.{Cell}
use Rattle.rules.specs.Limits.{least_dry}
use Rattle.rules.specs.Face.{speed}
use Rattle.rules.specs.Friction.{cube, drag, slowed, after_friction}
use Rattle.rules.specs.Reach.{Bed, h0, shallow}
use Rattle.rules.specs.Step.{rub, rubbed_cell}
use Rattle.rules.specs.AtRest.{Calm}

slowed_none : (x : ℤ) → slowed x (pos 0) ≡ pos 0
unfolding slowed
slowed_none x = quot_none (pos 0 *ℤ (pos 65536 +ℤ x)) (pos 65536 +ℤ pos 2 *ℤ x) (none_times (pos 65536 +ℤ x))

-- ---- its strength is not below nought, whatever the friction and the speed
pub drag_nonneg : (dt f h u : ℤ) → pos 0 ≤ℤ dt → pos 0 ≤ℤ h → pos 0 ≤ℤ drag dt f h u
unfolding drag cube
drag_nonneg dt f h u p q =
    let step = mul_nonneg (pos 251136) dt (nat_nonneg 251136) p in
    let rough = mul_nonneg (pos 256 *ℤ pos 981 *ℤ dt) (f *ℤ f) step (square f) in
    quot_nonneg (pos 256 *ℤ pos 981 *ℤ dt *ℤ (f *ℤ f) *ℤ size_z u) (pos 390625 *ℤ h *ℤ cube h)
    (mul_nonneg (pos 256 *ℤ pos 981 *ℤ dt *ℤ (f *ℤ f)) (size_z u) rough (size_nonneg u))
    (mul_nonneg (pos 390625 *ℤ h) (cube h) (mul_nonneg (pos 390625) h (nat_nonneg 390625) q) (nat_nonneg _))
  where
    square : (f : ℤ) → pos 0 ≤ℤ (f *ℤ f)
    square (pos n) = mul_nonneg (pos n) (pos n) (nat_nonneg n) (nat_nonneg n)
    square (negsuc n) = nat_nonneg (suc n * suc n)

-- what it leaves is no larger
pub slowed_size : (x q : ℤ) → pos 0 ≤ℤ x → nat_abs (slowed x q) ≤ nat_abs q
unfolding slowed
slowed_size x q p =
    let a = pos 65536 +ℤ x in let b = pos 65536 +ℤ pos 2 *ℤ x in
    NatL.le_trans (NatL.le_of_eq (abs_quot (q *ℤ a) b ∙ ap (λ (m : ℕ). m / nat_abs b) (abs_mul q a)))
    (share_le (nat_abs q) (nat_abs a) (nat_abs b) (below x p))
  where
    below : (x : ℤ) → pos 0 ≤ℤ x → nat_abs (pos 65536 +ℤ x) ≤ nat_abs (pos 65536 +ℤ pos 2 *ℤ x)
    below (pos n) h = omega arith
    below (negsuc n) h = absurd h.le

pub after_size : (dt d f h m q : ℤ) → pos 0 ≤ℤ dt → least_dry ≤ℤ d → nat_abs (after_friction dt d f h m q) ≤ nat_abs q
after_size dt d f h m q p l = let strength = drag dt f h (speed d m h) in
    cond_ind (le_z h d) q (slowed strength q) (λ z. nat_abs z ≤ nat_abs q) (λ e. omega arith)
    (λ e. slowed_size strength q (drag_nonneg dt f h (speed d m h) p (lt_le (le_lt_trans (le_trans (nat_nonneg 1) l) (le_no h d e)))))

-- and no discharge stays none
pub after_none : (dt d f h m q : ℤ) → q ≡ pos 0 → after_friction dt d f h m q ≡ q
after_none dt d f h m q e = let strength = drag dt f h (speed d m h) in
    cond_same (le_z h d) q (slowed strength q) q refl (ap (slowed strength) e ∙ slowed_none strength ∙ sym e)

-- ---- of one cell
module _ (dt d f : ℤ) (b : Bed) (x : Cell) where
  -- how strongly friction acts
  abbrev strong : ℤ
  strong = drag dt f (h0 b x) (speed d x.q0 (h0 b x))

  -- ---- a discharge, by the outcome of the test, and where there is none
  rub_dry : (q : ℤ) → shallow d b x ≡ true → rub dt d f b x q ≡ q
  unfolding rub
  rub_dry q e = rw e

  pub rub_wet : (q : ℤ) → shallow d b x ≡ false → rub dt d f b x q ≡ slowed strong q
  unfolding rub
  rub_wet q e = rw e

  rub_none : (q : ℤ) → q ≡ pos 0 → rub dt d f b x q ≡ q
  unfolding rub
  rub_none q e = after_none dt d f (h0 b x) x.q0 q e

  -- ---- a cell that is left as it is
  kept : rub dt d f b x x.q0 ≡ x.q0 → rub dt d f b x x.q1 ≡ x.q1 → rubbed_cell dt d f b x ≡ x
  unfolding rubbed_cell
  kept mean slope = λ k. record { e0 = x.e0; e1 = x.e1; q0 = mean k; q1 = slope k }

  pub rubbed_dry : shallow d b x ≡ true → rubbed_cell dt d f b x ≡ x
  rubbed_dry e = kept (rub_dry x.q0 e) (rub_dry x.q1 e)

  pub rubbed_calm : Calm x → rubbed_cell dt d f b x ≡ x
  rubbed_calm c = kept (rub_none x.q0 c.q0) (rub_none x.q1 c.q1)
