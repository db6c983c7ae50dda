-- What the functions of a face hand to one another.
use Rattle.std.specs.Prelude.{◌≡◌, ℤ, pos, ◌-ℤ◌, ◌*ℤ◌, ◌<ℤ◌}
use Rattle.std.specs.Int.Signed.{quot_z}
use Rattle.whole.specs.Parts.{Within}
use Rattle.rules.specs.Face.{Side, Flux, wave, left_wave, right_wave, wet}
use Rattle.rules.specs.Laws.Sizes.{Sound}
use Rattle.face.specs.declared.flux.Water.{Water}
use Rattle.face.specs.declared.flux.Waves.{Waves}
use Rattle.face.specs.Sides.{side_in}

-- a side within the limits, with its wave speed, which is at most that of the deepest water
pub record Known (x : Water) : Type 0 where
  pub sound : Sound (side_in x.side)
  pub wave_is : x.a ≡ wave (side_in x.side).h
  pub a_in : Within 102632 x.a

-- two waves as fast as a face can have them
pub record Bounded (s : Waves) : Type 0 where
  pub left_in : Within 401872 s.sl
  pub right_in : Within 401872 s.sr

-- two waves that run apart, with the face between them
pub record Apart (s : Waves) : Type 0 where
  pub left : s.sl <ℤ pos 0
  pub right : pos 0 <ℤ s.sr
  pub bounded : Bounded s

-- what can be mixed between them: depths, and the discharges of depths
pub record Mixable (s : Waves) (a b uL uR : ℤ) : Type 0 where
  pub apart : Apart s
  pub a_in : Within 8388608 a
  pub b_in : Within 8388608 b
  pub u_l_in : Within 131072 uL
  pub u_r_in : Within 131072 uR

-- ---- parts of the rule
-- K between the waves
unfoldable pub pressure_of : ℤ → ℤ → ℤ → ℤ → ℤ
pressure_of sL sR hL hR = quot_z (sR *ℤ (hL *ℤ hL) -ℤ sL *ℤ (hR *ℤ hR)) (sR -ℤ sL)

-- a face with water on a side
unfoldable pub wet_of : Side → Side → Flux
wet_of l r = wet l r (left_wave l r) (right_wave l r)
