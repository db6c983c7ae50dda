-- Past their limits the time step, the bed and the depth are within them.
use mathlib.Core.Path.{◌≡◌, sym, ◌∙◌}
use mathlib.Core.Bool.{Bool, true}
use lib.IntN.{ℤ}
use mir.Syntax.{w64}
use mir.Val.{SFits, to_z, of_z}
use mir.Facts.{to_z-of_z}
use borrow.Author.Rules.{rules}
use Rattle.friction.specs.Given.{step_fits, rough_fits, wet_fits}
use Rattle.friction.proofs.Fits.{step_in, rough_in, wet_in}
use Rattle.friction.proofs.strength.strength.Goals as goal

said : (f : ℤ → Bool) {x : ℤ} {b : Bool} → SFits w64 x → b ≡ f (to_z w64 (of_z w64 x)) → b ≡ true → f x ≡ true
said f h e t = rw (to_z-of_z h) at (sym e ∙ t)

pub drag_of-requires-clause-ranged : goal.drag_of-requires-clause-ranged
drag_of-requires-clause-ranged c = record {
  step = step_in _ (said step_fits (search rules) c.step_fits.ensures c.if-not-step_fits.false);
  rough = rough_in _ (said rough_fits (search rules) c.rough_fits.ensures c.if-not-rough_fits.false);
  wet = wet_in _ (said wet_fits (search rules) c.wet_fits.ensures c.if-not-wet_fits.false);
}
