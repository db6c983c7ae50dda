-- An end carries no more than a face between sides within the limits, where its inflow is neither too large nor too fast.
-- Assumes nothing.
use Rattle.std.specs.Prelude.{◌≡◌, false, ℕ, ◌≤◌, eqb, ℤ, pos, neg_ℤ, ◌+ℤ◌}
use Rattle.std.proofs.Common.{sym, subst}
use Rattle.whole.specs.Flags.{cond_ind}
use Rattle.whole.specs.Parts.{Within, b_up, b_neg, b_add, b_mul}
use Rattle.whole.specs.Difference.{mul_nonneg}
use Rattle.whole.specs.Quotient.{b_quot_by}
use Rattle.whole.specs.Choice.{size_z, b_max, b_size, within_past}
use Rattle.rules.specs.Limits.{largest_inflow}
use Rattle.rules.specs.Face.{Side, wave, face}
use Rattle.rules.specs.Lawful.{mirror}
use Rattle.rules.specs.Ends.{End, is_inflow, outer, inflow_speed, inflow, left_end, right_end}
use Rattle.rules.specs.Refusals.{fast_inflow}
use Rattle.rules.proofs.Laws.Face.{lawful}
use Rattle.rules.specs.Laws.Sizes.{Sound, Sized}
use Rattle.rules.proofs.Laws.Sizes.{wave_size, square_size, face_sized}
use Rattle.rules.proofs.Laws.EndsTurned.{right_turned}
use Rattle.rules.proofs.Laws.Ends.{inflow_size}

-- a Q in its list is no larger than a discharge may be
pub inflow_most : (e : End) → e.q ≤ largest_inflow → Within 8388608 (pos e.q)
inflow_most e q = record { abs = q }

pub outer_sound : (kind : ℕ) (x : Side) → Sound x → Sound (outer kind x)
unfolding outer
outer_sound kind x s = record {
  least = s.least;
  most = s.most;
  speed = cond_ind (eqb kind 0) (neg_ℤ x.u) x.u (Within 131072) (λ e. b_neg s.speed) (λ e. s.speed);
}

module _ (d : ℤ) (e : End) (x : Side) (s : Sound x) (q : e.q ≤ largest_inflow) where
  inflow_sized : Within 131072 (inflow_speed d e x) → Sized (inflow d e (pos e.q) x)
  unfolding inflow
  inflow_sized v = let w = inflow_most e q in record {
    F = b_up 51439616 w tt;
    K≥0 = mul_nonneg x.h x.h s.least s.least;
    K = square_size s;
    A = b_up 1646067712 (b_quot_by (pos 4096) (b_mul w v)) tt;
    S≥0 = inflow_size d e (pos e.q) x;
    S = b_max (inflow_speed d e x) (size_z x.u +ℤ wave x.h) (b_up 401872 v tt)
        (b_up 401872 (b_add (b_size x.u s.speed) (wave_size s)) tt);
  }

  pub left_end_sized : fast_inflow d e x ≡ false → Sized (left_end face d e x)
  unfolding left_end fast_inflow
  left_end_sized f = cond_ind (is_inflow e) (inflow d e (pos e.q) x) (face (outer e.kind x) x) Sized
      (λ b. inflow_sized (within_past 131072 (inflow_speed d e x) (rw b at f)))
      (λ b. face_sized (outer e.kind x) x (outer_sound e.kind x s) s)

pub right_end_sized : (d : ℤ) (e : End) (x : Side) → Sound x → e.q ≤ largest_inflow → fast_inflow d e x ≡ false → Sized (right_end face d e x)
unfolding fast_inflow inflow_speed
right_end_sized d e x s q f =
    let y : Sound (mirror x) = record { least = s.least; most = s.most; speed = b_neg s.speed } in
    let z = left_end_sized d e (mirror x) y q f in
    subst Sized (sym (right_turned face lawful d e x))
    (record { F = b_neg z.F; K≥0 = z.K≥0; K = z.K; A = z.A; S≥0 = z.S≥0; S = z.S })
