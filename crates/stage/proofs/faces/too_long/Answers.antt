-- Both products fit, and the test is the rule's.
use Rattle.std.specs.Prelude.{List, [], ◌∷◌, pos}
use Rattle.std.specs.Int.Signed.{lt_z}
use Rattle.std.proofs.Common.{ap₂}
use Rattle.whole.specs.Machine.{X, v, k, ◌⊗◌, Entry, need, value, sized}
use Rattle.rules.specs.Face.{Flux}
use Rattle.rules.specs.Laws.Sizes.{Sized}
use Rattle.reach.specs.declared.Reach.{Reach}
use Rattle.reach.specs.declared.Call.{Call}
use Rattle.reach.specs.Ranges.{Numbers}
use Rattle.stage.specs.Rows.{long_flux}
use Rattle.stage.proofs.faces.too_long.Goals as goal

abbrev env : {x : Flux} {reach : Reach} {call : Call} → Sized x → Numbers reach call → List Entry
env s num = sized num.dx_in tt ∷ sized num.dt_in tt ∷ sized s.S tt ∷ []

abbrev way : X
way = k (pos 2) ⊗ v 1 ⊗ v 2

pub overflow_mul-result-3 : goal.overflow_mul-result-3
overflow_mul-result-3 c = need (env c.requires.sized c.requires.numbers) way tt

pub returns : goal.returns
unfolding long_flux
returns c = let e = env c.requires.sized c.requires.numbers in ap₂ lt_z (value e (k (pos 4096) ⊗ v 0) tt) (value e way tt)
