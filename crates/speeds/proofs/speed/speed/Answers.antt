-- Past the limits and the dry depth the divisor is above nought, and no step leaves 64 bits.
use mathlib.Core.Path.{◌≡◌, ◌∙◌, sym, ap}
use mathlib.Core.Bool.{not, true, false}
use mathlib.Core.List.{List, [], ◌∷◌}
use lib.IntN.{pos}
use lib.Signed.{le_z}
use mir.Facts.{to_z-of_z}
use Rattle.std.specs.Prelude.{Some}
use Rattle.std.proofs.Common.{arith}
use Rattle.std.proofs.lemmas.Int.{ints}
use Rattle.whole.specs.Parts.{b_nonneg}
use Rattle.whole.specs.Machine.{X, v, k, ◌⊗◌, ◌⊘◌, Entry, entry, need, value, said_yes}
use Rattle.rules.proofs.Laws.Speeds.{speed_wet}
use Rattle.speeds.specs.Given.{discharge_fits, depth_fits, dry_fits, speed_given}
use Rattle.speeds.proofs.Fits.{discharge_in, depth_in, dry_in}
use Rattle.speeds.proofs.speed.speed.Goals as goal

module _ (c : goal.Else-h-dry) where
  q_fits : discharge_fits c.args.q ≡ true
  q_fits = said_yes discharge_fits c.ranges.q c.discharge_fits.ensures (ap not c.if-not-discharge_fits.false)

  h_fits : depth_fits c.args.h ≡ true
  h_fits = said_yes depth_fits c.ranges.h c.depth_fits.ensures (ap not c.if-not-depth_fits.false)

  d_fits : dry_fits c.args.dry ≡ true
  d_fits = said_yes dry_fits c.ranges.dry c.dry_fits.ensures (ap not c.if-not-dry_fits.false)

  abbrev env : List Entry
  env =
      let d = depth_in c.args.h h_fits in
      entry c.ranges.q (discharge_in c.args.q q_fits) ∷ entry c.ranges.h (b_nonneg d.0 d.1) ∷ []

abbrev rate : X
rate = v 0 ⊗ k (pos 4096) ⊘ v 1

pub overflow_mul-result : goal.overflow_mul-result
overflow_mul-result c = need (env c) (v 0 ⊗ k (pos 4096)) tt

pub nonzero_div-result : goal.nonzero_div-result
nonzero_div-result c = let d = dry_in c.args.dry (d_fits c) in (grind (arith, ints, d.least), need (env c) rate tt)

pub returns : goal.returns
unfolding speed_given
returns c =
    let moves : le_z c.args.h c.args.dry ≡ false = simp (to_z-of_z, c.ranges.h, c.ranges.dry) at c.if-h-dry.false in
    rw (q_fits c, h_fits c, d_fits c) (ap Some (value (env c) rate tt ∙ sym (speed_wet c.args.dry c.args.q c.args.h moves)))
