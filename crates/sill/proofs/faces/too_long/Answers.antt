-- Both products fit, and the test is the rule's.
use Rattle.std.proofs.Common.{ap₂, List, [], ◌∷◌, pos}
use Rattle.std.specs.Int.Signed.{lt_z}
use Rattle.whole.specs.Machine.{X, v, k, ◌⊗◌, Entry, sized, value}
use Rattle.rules.specs.Face.{Flux}
use Rattle.rules.specs.Laws.Sizes.{Sized}
use Rattle.sill.specs.declared.rows.Call.{Call}
use Rattle.sill.specs.Ranges.{Numbers}
use Rattle.sill.proofs.faces.too_long.Goals as goal

abbrev env : {x : Flux} {call : Call} → Sized x → Numbers call → List Entry
env x num = sized num.dx_in tt ∷ sized num.dt_in tt ∷ sized x.S tt ∷ []

abbrev room : X
room = k (pos 4096) ⊗ v 0

abbrev way : X
way = k (pos 2) ⊗ v 1 ⊗ v 2

pub returns : goal.returns
returns c = let e = env c.requires.sized c.requires.numbers in ap₂ lt_z (value e room tt) (value e way tt)
