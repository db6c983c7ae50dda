-- The right end is the left one seen from the other bank.
-- Assumes nothing.
use Rattle.std.specs.Prelude.{◌≡◌, ℤ, neg_ℤ, ◌+ℤ◌}
use Rattle.std.proofs.Common.{sym}
use Rattle.std.proofs.Math.IntN.{pos}
use Rattle.whole.specs.Flags.{by}
use Rattle.whole.specs.Choice.{max_z, size_neg}
use Rattle.rules.specs.Face.{Side, Flux, wave}
use Rattle.rules.specs.Lawful.{mirror, flip, Lawful}
use Rattle.rules.specs.Ends.{End, is_inflow, inflow_speed, inflow, left_end, right_end}
use Rattle.rules.proofs.Laws.Outer.{outer_turned}

-- from the other bank the mass alone is turned
inflow_turn : (d : ℤ) (e : End) (f : ℤ) (x : Side) → inflow d e (neg_ℤ f) x ≡ flip (inflow d e f (mirror x))
unfolding inflow inflow_speed
inflow_turn d e f x = λ j. record {
  F = neg_ℤ f;
  K = (inflow d e f x).K;
  A = (inflow d e f x).A;
  S = max_z (inflow_speed d e x) (sym (size_neg x.u) j +ℤ wave x.h);
}

module _ (face : Side → Side → Flux) (law : Lawful face) (d : ℤ) (e : End) where
  -- the right end is the left one of the mirror image, seen from the other bank
  pub right_turned : (x : Side) → right_end face d e x ≡ flip (left_end face d e (mirror x))
  unfolding left_end right_end
  right_turned x = by (is_inflow e) (λ b. rw b (inflow_turn d e (pos e.q) x))
      (λ b. rw b (outer_turned face law e.kind x))
