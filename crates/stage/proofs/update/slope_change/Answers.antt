-- The product is formed whole, then divided by a length that is not nought.
use Rattle.std.specs.Prelude.{List, [], ◌∷◌, ℤ, pos}
use Rattle.whole.specs.Machine.{X, v, k, ◌⊗◌, ◌⊘◌, Entry, need, value, divisor, sized}
use Rattle.reach.specs.declared.Reach.{Reach}
use Rattle.reach.specs.declared.Call.{Call}
use Rattle.reach.specs.Ranges.{UpTo, Numbers}
use Rattle.stage.specs.Ranges.{most_change}
use Rattle.stage.specs.Rows.{slope_of}
use Rattle.stage.proofs.update.slope_change.Goals as goal

abbrev env : {a : ℤ} {reach : Reach} {call : Call} → UpTo most_change a → Numbers reach call → List Entry
env a num = sized a tt ∷ sized num.dx_in tt ∷ sized num.dt_in tt ∷ []

abbrev above : X
above = k (pos 3) ⊗ v 0 ⊗ v 2

pub overflow_mul-result-2 : goal.overflow_mul-result-2
overflow_mul-result-2 c = need (env c.requires.up_to c.requires.numbers) above tt

pub nonzero_div-result : goal.nonzero_div-result
nonzero_div-result c =
    let e = env c.requires.up_to c.requires.numbers in (divisor e (v 1) tt c.requires.numbers.dx_pos, need e (above ⊘ v 1) tt)

pub returns : goal.returns
unfolding slope_of
returns c = value (env c.requires.up_to c.requires.numbers) (above ⊘ v 1) tt
