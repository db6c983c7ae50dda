-- To be believed. What the public functions give: the rule's number within the limits, and none beyond them.
use Rattle.std.specs.Prelude.{Bool, not, cond, ◌&&◌, Option, Some, None, ℤ, pos}
use Rattle.std.specs.Int.Signed.{le_z, lt_z}
use Rattle.rules.specs.Limits.{longest_step, roughest, least_dry, deepest}
use Rattle.rules.specs.Friction.{drag, slowed}
use Rattle.rules.specs.Refusals.{outside}
use Rattle.speeds.specs.Given.{discharge_fits, speed_fits}

-- ---- the limits
unfoldable pub step_fits : ℤ → Bool
step_fits dt = not (outside (pos 0) longest_step dt)

unfoldable pub rough_fits : ℤ → Bool
rough_fits f = not (outside (pos 0) roughest f)

-- a depth over the least dry depth: at or below that no water has a speed
unfoldable pub wet_fits : ℤ → Bool
wet_fits h = lt_z least_dry h && le_z h deepest

-- how strongly friction can act within these (`drag_most` of Strength says that it acts no more strongly)
abbrev pub strongest : ℤ
strongest = pos 21438427962

unfoldable pub strength_fits : ℤ → Bool
strength_fits x = not (outside (pos 0) strongest x)

-- ---- what is given
unfoldable pub strength_given : ℤ → ℤ → ℤ → ℤ → Option ℤ
strength_given dt f h u = cond (step_fits dt && rough_fits f && wet_fits h && speed_fits u) (Some (drag dt f h u)) None

unfoldable pub slowed_given : ℤ → ℤ → Option ℤ
slowed_given x q = cond (strength_fits x && discharge_fits q) (Some (slowed x q)) None
