-- What it says of a side that it is within the limits; and that within them the public function gives the rule's flux.
-- Assumes nothing.
use mathlib.Core.Path.{◌≡◌}
use mathlib.Core.Bool.{true}
use Rattle.std.specs.Prelude.{Some}
use Rattle.whole.specs.Flags.{and_l, and_r}
use Rattle.rules.specs.Face.{Side, face}
use Rattle.rules.specs.Laws.Sizes.{Sound}
use Rattle.speeds.specs.Given.{depth_fits, speed_fits}
use Rattle.speeds.proofs.Fits.{depth_in, in_depth, speed_in, in_speed}
use Rattle.face.specs.Given.{side_fits, face_given}

-- ---- from the tests
pub side_sound : (x : Side) → side_fits x ≡ true → Sound x
unfolding side_fits
side_sound x e =
    let d = depth_in x.h (and_l (depth_fits x.h) (speed_fits x.u) e) in
    record { least = d.0; most = d.1; speed = speed_in x.u (and_r (depth_fits x.h) (speed_fits x.u) e) }

pub fitting : (x : Side) → depth_fits x.h ≡ true → speed_fits x.u ≡ true → side_fits x ≡ true
unfolding side_fits
fitting x d u = rw (d, u)

-- ---- to the tests
in_side : (x : Side) → Sound x → side_fits x ≡ true
in_side x s = fitting x (in_depth x.h s.least s.most) (in_speed x.u s.speed)

-- ---- so within the limits
pub face_given_lem : (l r : Side) → Sound l → Sound r → face_given l r ≡ Some (face l r)
unfolding face_given
face_given_lem l r p q = rw (in_side l p, in_side r q)
