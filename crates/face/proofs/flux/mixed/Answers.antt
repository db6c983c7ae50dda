use mathlib.Core.List.{List, [], ◌∷◌}
use lib.IntN.{ℤ, pos}
use Rattle.whole.specs.Machine.{X, v, k, ◌⊕◌, ◌⊝◌, ◌⊗◌, ◌⊘◌, Entry, sized, need, value, divisor}
use Rattle.rules.specs.Face.{mixture, mixed}
use Rattle.rules.proofs.Laws.Mixed.{wide}
use Rattle.face.specs.declared.flux.Waves.{Waves}
use Rattle.face.specs.Waves.{Mixable}
use Rattle.face.proofs.flux.mixed.Goals as goal

abbrev env : {s : Waves} {a b uL uR : ℤ} → Mixable s a b uL uR → List Entry
env m =
    sized m.apart.bounded.left_in tt ∷ sized m.apart.bounded.right_in tt ∷ sized m.a_in tt ∷ sized m.b_in tt
    ∷ sized m.u_l_in tt ∷ sized m.u_r_in tt ∷ []

abbrev sl : X
sl = v 0

abbrev sr : X
sr = v 1

abbrev a : X
a = v 2

abbrev b : X
b = v 3

abbrev ul : X
ul = v 4

abbrev ur : X
ur = v 5

abbrev above : X
above = sr ⊗ a ⊗ ul ⊝ sl ⊗ b ⊗ ur ⊕ sl ⊗ sr ⊗ (b ⊝ a)

abbrev below : X
below = k (pos 4096) ⊗ (sr ⊝ sl)

pub overflow_mul-result : goal.overflow_mul-result
overflow_mul-result c = need (env c.requires) (sr ⊗ a) tt

pub overflow_mul-result-2 : goal.overflow_mul-result-2
overflow_mul-result-2 c = need (env c.requires) (sr ⊗ a ⊗ ul) tt

pub overflow_mul-result-3 : goal.overflow_mul-result-3
overflow_mul-result-3 c = need (env c.requires) (sl ⊗ b) tt

pub overflow_mul-result-4 : goal.overflow_mul-result-4
overflow_mul-result-4 c = need (env c.requires) (sl ⊗ b ⊗ ur) tt

pub overflow_sub-result : goal.overflow_sub-result
overflow_sub-result c = need (env c.requires) (sr ⊗ a ⊗ ul ⊝ sl ⊗ b ⊗ ur) tt

pub overflow_mul-result-6 : goal.overflow_mul-result-6
overflow_mul-result-6 c = need (env c.requires) (sl ⊗ sr ⊗ (b ⊝ a)) tt

pub overflow_add-result : goal.overflow_add-result
overflow_add-result c = need (env c.requires) above tt

pub nonzero_div-result : goal.nonzero_div-result
nonzero_div-result c =
    let e = env c.requires in
    (divisor e below tt (wide c.requires.apart.left c.requires.apart.right), need e (above ⊘ below) tt)

pub returns : goal.returns
unfolding mixed mixture
returns c = value (env c.requires) (above ⊘ below) tt
