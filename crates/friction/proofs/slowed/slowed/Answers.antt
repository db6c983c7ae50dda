-- Past the limits the answer is the rule's, in one expression whose divisor is at least 65,536.
use mathlib.Core.Path.{◌≡◌, ◌∙◌, sym, ap}
use mathlib.Core.Bool.{true}
use mathlib.Core.List.{List, [], ◌∷◌}
use native.Mathlib.Omega.{arith}
use lib.IntN.{pos}
use mir.Facts.{to_z-of_z}
use Rattle.std.specs.Prelude.{Some}
use Rattle.std.proofs.lemmas.Int.{ints}
use borrow.Author.Rules.{rules}
use Rattle.whole.specs.Parts.{Within}
use Rattle.whole.specs.Machine.{X, v, k, ◌⊕◌, ◌⊗◌, ◌⊘◌, Entry, sized, need, value}
use Rattle.rules.specs.Friction.{slowed}
use Rattle.speeds.specs.Given.{discharge_fits}
use Rattle.speeds.proofs.Fits.{discharge_in}
use Rattle.friction.specs.Given.{strength_fits, slowed_given}
use Rattle.friction.proofs.Fits.{strength_in}
use Rattle.friction.proofs.slowed.slowed.Goals as goal

module _ (c : goal.Else-not-discharge_fits) where
  x_fits : strength_fits c.args.x ≡ true
  x_fits = rw (to_z-of_z c.ranges.x) at (sym c.strength_fits.ensures ∙ c.if-not-strength_fits.false)

  q_fits : discharge_fits c.args.q ≡ true
  q_fits = rw (to_z-of_z c.ranges.q) at (sym c.discharge_fits.ensures ∙ c.if-not-discharge_fits.false)

  abbrev env : List Entry
  env = sized (strength_in c.args.x x_fits).1 tt ∷ sized (discharge_in c.args.q q_fits) tt ∷ []

abbrev above : X
above = v 1 ⊗ (k (pos 65536) ⊕ v 0)

abbrev below : X
below = k (pos 65536) ⊕ k (pos 2) ⊗ v 0

pub overflow_mul-result : goal.overflow_mul-result
overflow_mul-result c = need (env c) above tt

pub nonzero_div-result : goal.nonzero_div-result
nonzero_div-result c =
    let x = strength_in c.args.x (x_fits c) in
    let q : Within 8388608 c.args.q = discharge_in c.args.q (q_fits c) in
    (omega (arith, ints, x.0, x.1.abs), search rules)

pub returns : goal.returns
unfolding slowed_given slowed
returns c = rw (x_fits c, q_fits c) (ap Some (value (env c) (above ⊘ below) tt))
