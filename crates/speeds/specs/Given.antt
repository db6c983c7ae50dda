-- To be believed. What the public functions give: the rule's number within the limits, and none beyond them.
use Rattle.std.specs.Prelude.{Bool, not, cond, ◌&&◌, Option, Some, None, ℤ, pos}
use Rattle.rules.specs.Limits.{deepest, fullest, fastest}
use Rattle.rules.specs.Face.{speed, wave}
use Rattle.rules.specs.Friction.{cube}
use Rattle.rules.specs.Refusals.{outside, past, bad_dry}

-- ---- the limits
unfoldable pub depth_fits : ℤ → Bool
depth_fits h = not (outside (pos 0) deepest h)

unfoldable pub discharge_fits : ℤ → Bool
discharge_fits q = not (past fullest q)

unfoldable pub dry_fits : ℤ → Bool
dry_fits d = not (bad_dry d)

unfoldable pub speed_fits : ℤ → Bool
speed_fits u = not (past fastest u)

-- ---- what is given
unfoldable pub speed_given : ℤ → ℤ → ℤ → Option ℤ
speed_given q h d = cond (discharge_fits q && depth_fits h && dry_fits d) (Some (speed d q h)) None

unfoldable pub wave_given : ℤ → Option ℤ
wave_given h = cond (depth_fits h) (Some (wave h)) None

unfoldable pub cube_given : ℤ → Option ℤ
cube_given h = cond (depth_fits h) (Some (cube h)) None
