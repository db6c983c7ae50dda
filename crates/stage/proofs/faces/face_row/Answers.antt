-- F, K and A are passed on, and the volume is the product divided by a length that is not nought.
use Rattle.std.specs.Prelude.{List, [], ◌∷◌}
use Rattle.whole.specs.Parts.{b_nonneg}
use Rattle.whole.specs.Machine.{v, ◌⊗◌, ◌⊘◌, Entry, need, value, divisor, sized}
use Rattle.rules.specs.Face.{Flux}
use Rattle.rules.specs.Shown.{volume}
use Rattle.rules.specs.Laws.Sizes.{Sized}
use Rattle.reach.specs.declared.Reach.{Reach}
use Rattle.reach.specs.declared.Call.{Call}
use Rattle.reach.specs.Ranges.{Numbers}
use Rattle.stage.proofs.faces.face_row.Goals as goal

abbrev env : {x : Flux} {reach : Reach} {call : Call} → Sized x → Numbers reach call → List Entry
env s num = sized s.F tt ∷ sized (b_nonneg s.K≥0 s.K) tt ∷ sized s.A tt ∷ sized num.dx_in tt ∷ sized num.dt_in tt ∷ []

pub overflow_mul-result : goal.overflow_mul-result
overflow_mul-result c = need (env c.requires.sized c.requires.numbers) (v 0 ⊗ v 4) tt

pub nonzero_div-result : goal.nonzero_div-result
nonzero_div-result c =
    let e = env c.requires.sized c.requires.numbers in (divisor e (v 3) tt c.requires.numbers.dx_pos, need e (v 0 ⊗ v 4 ⊘ v 3) tt)

pub returns : goal.returns
unfolding volume
returns c =
    let e = env c.requires.sized c.requires.numbers in
    λ j. record {
      mass = value e (v 0) tt j;
      pressure = value e (v 1) tt j;
      advection = value e (v 2) tt j;
      volume = value e (v 0 ⊗ v 4 ⊘ v 3) tt j;
    }
