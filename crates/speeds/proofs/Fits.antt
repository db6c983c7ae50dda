-- What it says of a number that it is within the limits; and that within them each public function gives the rule's value.
-- Assumes nothing.
use mathlib.Core.Path.{◌≡◌, refl, ap}
use mathlib.Core.Bool.{Bool, true, false, not, cond}
use borrow.Author.Tests.{not-true}
use lib.IntN.{ℤ, pos}
use lib.Signed.{◌≤ℤ◌}
use Rattle.std.specs.Prelude.{Some, None}
use Rattle.whole.specs.Parts.{Within}
use Rattle.whole.specs.Choice.{within_past, not_beyond}
use Rattle.rules.specs.Limits.{deepest, fullest, fastest}
use Rattle.rules.specs.Face.{speed, wave}
use Rattle.rules.specs.Friction.{cube}
use Rattle.rules.specs.Refusals.{outside, past, bad_dry}
use Rattle.reach.specs.Ranges.{DryDepth}
use Rattle.reach.specs.Laws.DryList.{in_list, not_bad}
use Rattle.rules.proofs.Laws.Inside.{above_least, below_most, not_outside}
use Rattle.speeds.specs.Given.{depth_fits, discharge_fits, dry_fits, speed_fits, speed_given, wave_given, cube_given}

-- ---- from the tests
pub depth_in : (h : ℤ) → depth_fits h ≡ true → (pos 0 ≤ℤ h) × (h ≤ℤ deepest)
unfolding depth_fits
depth_in h e = let f = not-true (outside (pos 0) deepest h) e in (above_least (pos 0) deepest h f, below_most (pos 0) deepest h f)

pub discharge_in : (q : ℤ) → discharge_fits q ≡ true → Within 8388608 q
unfolding discharge_fits
discharge_in q e = within_past 8388608 q (not-true (past fullest q) e)

pub dry_in : (d : ℤ) → dry_fits d ≡ true → DryDepth d
unfolding dry_fits
dry_in d e = in_list d (not-true (bad_dry d) e)

pub speed_in : (u : ℤ) → speed_fits u ≡ true → Within 131072 u
unfolding speed_fits
speed_in u e = within_past 131072 u (not-true (past fastest u) e)

-- ---- to the tests
pub in_depth : (h : ℤ) → pos 0 ≤ℤ h → h ≤ℤ deepest → depth_fits h ≡ true
unfolding depth_fits
in_depth h p q = ap not (not_outside (pos 0) deepest h p q)

pub in_discharge : (q : ℤ) → Within 8388608 q → discharge_fits q ≡ true
unfolding discharge_fits
in_discharge q w = ap not (not_beyond 8388608 q w)

pub in_dry : (d : ℤ) → DryDepth d → dry_fits d ≡ true
unfolding dry_fits
in_dry d i = ap not (not_bad d i)

pub in_speed : (u : ℤ) → Within 131072 u → speed_fits u ≡ true
unfolding speed_fits
in_speed u w = ap not (not_beyond 131072 u w)

-- ---- so within the limits
pub speed_given_lem : (q h d : ℤ) → Within 8388608 q → pos 0 ≤ℤ h → h ≤ℤ deepest → DryDepth d → speed_given q h d ≡ Some (speed d q h)
unfolding speed_given
speed_given_lem q h d w a b i = rw (in_discharge q w, in_depth h a b, in_dry d i)

pub wave_given_lem : (h : ℤ) → pos 0 ≤ℤ h → h ≤ℤ deepest → wave_given h ≡ Some (wave h)
unfolding wave_given
wave_given_lem h a b = rw (in_depth h a b)

pub cube_given_lem : (h : ℤ) → pos 0 ≤ℤ h → h ≤ℤ deepest → cube_given h ≡ Some (cube h)
unfolding cube_given
cube_given_lem h a b = rw (in_depth h a b)

-- ---- and where there is a wave speed the depth is within them
pub wave_told : (h z : ℤ) → Some z ≡ wave_given h → (depth_fits h ≡ true) × (z ≡ wave h)
unfolding wave_given
wave_told h z e = held (depth_fits h) (wave h) z e
  where
    held : (b : Bool) (x z : ℤ) → Some z ≡ cond b (Some x) None → (b ≡ true) × (z ≡ x)
    held true x z e = (refl, cc)
    held false x z e = cc
