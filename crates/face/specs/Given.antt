-- To be believed. What the public function gives: the rule's flux within the limits, and none beyond them.
use Rattle.std.specs.Prelude.{Bool, cond, ◌&&◌, Option, Some, None, ℤ}
use Rattle.rules.specs.Face.{Side, Flux, face}
use Rattle.speeds.specs.Given.{depth_fits, speed_fits}

-- a side of depth h and speed u
abbrev pub side : ℤ → ℤ → Side
side h u = record { h = h; u = u }

-- a speed counts even where there is no depth: what is refused does not hang on the water
unfoldable pub side_fits : Side → Bool
side_fits x = depth_fits x.h && speed_fits x.u

-- ---- what is given
unfoldable pub face_given : Side → Side → Option Flux
face_given l r = cond (side_fits l && side_fits r) (Some (face l r)) None
