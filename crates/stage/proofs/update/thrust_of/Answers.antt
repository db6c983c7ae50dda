-- The product is formed whole: it stays below 2^63 for a pressure within 2·10^12.
use Rattle.std.specs.Prelude.{List, [], ◌∷◌, ℤ, pos}
use Rattle.whole.specs.Machine.{X, v, k, ◌⊗◌, ◌⊘◌, Entry, need, value, divisor, sized}
use Rattle.reach.specs.declared.Reach.{Reach}
use Rattle.reach.specs.declared.Call.{Call}
use Rattle.reach.specs.Ranges.{UpTo, Numbers}
use Rattle.stage.specs.Ranges.{most_pressure}
use Rattle.stage.specs.Laws.UpdateSizes.{wide_pos}
use Rattle.stage.specs.Rows.{thrust}
use Rattle.stage.proofs.update.thrust_of.Goals as goal

abbrev env : {e : ℤ} {reach : Reach} {call : Call} → UpTo most_pressure e → Numbers reach call → List Entry
env e num = sized e tt ∷ sized num.dx_in tt ∷ sized num.dt_in tt ∷ []

abbrev above : X
above = k (pos 981) ⊗ v 0 ⊗ v 2

abbrev below : X
below = k (pos 819200) ⊗ v 1

pub overflow_mul-result-2 : goal.overflow_mul-result-2
overflow_mul-result-2 c = need (env c.requires.up_to c.requires.numbers) above tt

pub nonzero_div-result : goal.nonzero_div-result
nonzero_div-result c =
    let e = env c.requires.up_to c.requires.numbers in
    (divisor e below tt (wide_pos c.args.course.reach.dx c.requires.numbers.dx_pos), need e (above ⊘ below) tt)

pub returns : goal.returns
unfolding thrust
returns c = value (env c.requires.up_to c.requires.numbers) (above ⊘ below) tt
