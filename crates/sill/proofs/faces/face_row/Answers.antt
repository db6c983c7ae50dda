-- K and A are passed on, and the volume is the product divided by a length that is not nought.
use Rattle.std.proofs.Common.{List, [], ◌∷◌}
use Rattle.whole.specs.Parts.{b_nonneg}
use Rattle.whole.specs.Machine.{X, v, ◌⊗◌, ◌⊘◌, Entry, sized, need, value, divisor}
use Rattle.rules.specs.Shown.{volume}
use Rattle.rules.specs.Face.{Flux}
use Rattle.rules.specs.Laws.Sizes.{Sized}
use Rattle.sill.specs.declared.rows.Call.{Call}
use Rattle.sill.specs.Ranges.{Numbers}
use Rattle.sill.proofs.faces.face_row.Goals as goal

abbrev env : {x : Flux} {call : Call} → Sized x → Numbers call → List Entry
env x num =
    sized x.F tt ∷ sized (b_nonneg x.K≥0 x.K) tt ∷ sized x.A tt ∷ sized num.dx_in tt ∷ sized num.dt_in tt ∷ []

abbrev carried : X
carried = v 0 ⊗ v 4 ⊘ v 3

pub nonzero_div-result : goal.nonzero_div-result
nonzero_div-result c =
    let num = c.requires.numbers in let e = env c.requires.sized num in
    (divisor e (v 3) tt num.dx_pos, need e carried tt)

pub returns : goal.returns
unfolding volume
returns c = let e = env c.requires.sized c.requires.numbers in
    λ j. record { volume = value e carried tt j; pressure = value e (v 1) tt j; advection = value e (v 2) tt j }
