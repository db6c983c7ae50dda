-- The product of time step, friction and speed, over that of the depth and its cube-root number: each fits, and the divisor is not nought.
use mathlib.Core.Path.{◌≡◌}
use mathlib.Core.List.{List, [], ◌∷◌}
use lib.IntN.{ℤ, pos}
use mir.Syntax.{w64}
use mir.Val.{to_z, of_z}
use mir.Facts.{to_z-of_z}
use Rattle.std.specs.Prelude.{Option, Some}
use Rattle.whole.specs.Parts.{Within, fit, b_nonneg, le_trans, lt_le, nat_nonneg}
use Rattle.whole.specs.Choice.{size_z, b_size}
use Rattle.whole.specs.Machine.{X, v, k, ◌⊗◌, ◌⊘◌, Entry, sized, need, value, divisor, g_var}
use Rattle.rules.specs.Limits.{fastest}
use Rattle.rules.specs.Friction.{cube, drag}
use Rattle.rules.proofs.Laws.Speeds.{cube_least, cube_most}
use Rattle.reach.specs.Size.{held_size, sized as size-got}
use Rattle.speeds.specs.Given.{cube_given}
use Rattle.speeds.proofs.Fits.{cube_given_lem}
use Rattle.reach.specs.Ranges.{UpTo}
use Rattle.friction.specs.declared.strength.Rubbing.{Rubbing}
use Rattle.friction.specs.Strength.{Ranged, wet, wet_size, divisor_pos}
use Rattle.friction.proofs.strength.drag_of.Goals as goal

module _ {at : Rubbing} (r : Ranged at) (slow : UpTo fastest at.u) where
  deep : Within 262144 at.h
  deep = wet_size at.h r.wet.0 r.wet.1

  cube_size : Within 16384 (cube at.h)
  cube_size = b_nonneg (le_trans (nat_nonneg 322) (cube_least at.h r.wet.0 deep)) (cube_most at.h deep)

  -- the cube-root number that is given, and the size of the speed
  c_is : {o : Option ℤ} {c : ℤ} → o ≡ Some c → o ≡ cube_given (to_z w64 (of_z w64 at.h)) → c ≡ cube at.h
  c_is e f =
      let g = rw (to_z-of_z (fit deep tt)) at f in
      let h = cube_given_lem at.h (lt_le (wet at.h r.wet.0 r.wet.1)) r.wet.1 in
      cc

  s_is : {s : ℤ} → s ≡ held_size (to_z w64 (of_z w64 at.u)) → s ≡ size_z at.u
  s_is e = size-got (g_var (fit slow tt) slow) e tt

  -- dt, f, |u|, h and c
  abbrev env : List Entry
  env =
      sized r.step.1 tt ∷ sized r.rough.1 tt ∷ sized (b_size at.u slow) tt ∷ sized deep tt ∷ sized cube_size tt ∷ []

abbrev per : X
per = k (pos 251136) ⊗ v 0

abbrev rough : X
rough = v 1 ⊗ v 1

abbrev above : X
above = per ⊗ rough ⊗ v 2

abbrev below : X
below = k (pos 390625) ⊗ v 3 ⊗ v 4

pub returns : goal.returns
unfolding drag
returns c =
    let r = c.requires.ranged in let u = c.requires.slow in
    rw (s_is r u c.size-s.ensures, c_is r u c.unwrap-c.ensures c.cube.ensures) (value (env r u) (above ⊘ below) tt)

pub overflow_mul-result-4 : goal.overflow_mul-result-4
overflow_mul-result-4 c = need (env c.requires.ranged c.requires.slow) (per ⊗ rough) tt

pub overflow_mul-result-5 : goal.overflow_mul-result-5
overflow_mul-result-5 c =
    let r = c.requires.ranged in let u = c.requires.slow in
    rw (s_is r u c.size-s.ensures) (need (env r u) above tt)

pub overflow_mul-result-7 : goal.overflow_mul-result-7
overflow_mul-result-7 c =
    let r = c.requires.ranged in let u = c.requires.slow in
    rw (c_is r u c.unwrap-c.ensures c.cube.ensures) (need (env r u) below tt)

pub nonzero_div-result : goal.nonzero_div-result
nonzero_div-result c =
    let r = c.requires.ranged in let u = c.requires.slow in
    rw (s_is r u c.size-s.ensures, c_is r u c.unwrap-c.ensures c.cube.ensures)
    (divisor (env r u) below tt (divisor_pos c.args.at.h r.wet.0 r.wet.1), need (env r u) (above ⊘ below) tt)
