-- What it says of a number that it is within the limits; and that within them each public function gives the rule's value.
-- Assumes nothing.
use mathlib.Core.Path.{◌≡◌, ap}
use mathlib.Core.Bool.{true, not}
use Prim.Native.Nat.{ℕ}
use borrow.Author.Tests.{not-true}
use lib.IntN.{ℤ, pos}
use Rattle.std.specs.Prelude.{Some}
use lib.Signed.{le_z, lt_z, ◌≤ℤ◌, ◌<ℤ◌}
use Rattle.whole.specs.Flags.{and_l, and_r}
use Rattle.whole.specs.Parts.{Within, b_nonneg, range_b}
use Rattle.whole.specs.Tests.{le_yes, lt_yes, yes_le, yes_lt}
use Rattle.rules.specs.Limits.{longest_step, roughest, least_dry, deepest, fullest, fastest}
use Rattle.rules.specs.Friction.{drag, slowed}
use Rattle.rules.specs.Refusals.{outside}
use Rattle.rules.proofs.Laws.Inside.{above_least, below_most, not_outside}
use Rattle.reach.specs.Ranges.{UpTo}
use Rattle.speeds.proofs.Fits.{in_discharge, in_speed}
use Rattle.friction.specs.Given.{step_fits, rough_fits, wet_fits, strength_fits, strongest, strength_given, slowed_given}

-- ---- a number in a list that starts at nought
up_to : (m : ℕ) (x : ℤ) → not (outside (pos 0) (pos m) x) ≡ true → (pos 0 ≤ℤ x) × Within m x
up_to m x e =
    let f = not-true (outside (pos 0) (pos m) x) e in
    let low = above_least (pos 0) (pos m) x f in
    (low, b_nonneg low (below_most (pos 0) (pos m) x f))

in_list : (m : ℕ) (x : ℤ) → (pos 0 ≤ℤ x) × Within m x → not (outside (pos 0) (pos m) x) ≡ true
in_list m x p = ap not (not_outside (pos 0) (pos m) x p.0 (range_b p.1).1)

-- ---- from the tests
pub step_in : (dt : ℤ) → step_fits dt ≡ true → (pos 0 ≤ℤ dt) × UpTo longest_step dt
unfolding step_fits
step_in dt e = up_to 4096 dt e

pub rough_in : (f : ℤ) → rough_fits f ≡ true → (pos 0 ≤ℤ f) × UpTo roughest f
unfolding rough_fits
rough_in f e = up_to 200 f e

pub wet_in : (h : ℤ) → wet_fits h ≡ true → (least_dry <ℤ h) × (h ≤ℤ deepest)
unfolding wet_fits
wet_in h e =
    let low = lt_z least_dry h in let high = le_z h deepest in
    (lt_yes least_dry h (and_l low high e), le_yes h deepest (and_r low high e))

pub strength_in : (x : ℤ) → strength_fits x ≡ true → (pos 0 ≤ℤ x) × UpTo strongest x
unfolding strength_fits
strength_in x e = up_to 21438427962 x e

-- ---- so within the limits
pub strength_given_lem : (dt f h u : ℤ) → (pos 0 ≤ℤ dt) × UpTo longest_step dt → (pos 0 ≤ℤ f) × UpTo roughest f
    → (least_dry <ℤ h) × (h ≤ℤ deepest) → UpTo fastest u → strength_given dt f h u ≡ Some (drag dt f h u)
unfolding strength_given step_fits rough_fits wet_fits
strength_given_lem dt f h u a b w s =
    rw (in_list 4096 dt a, in_list 200 f b, yes_lt least_dry h w.0, yes_le h deepest w.1, in_speed u s)

pub slowed_given_lem : (x q : ℤ) → (pos 0 ≤ℤ x) × UpTo strongest x → UpTo fullest q → slowed_given x q ≡ Some (slowed x q)
unfolding slowed_given strength_fits
slowed_given_lem x q p w = rw (in_list 21438427962 x p, in_discharge q w)
