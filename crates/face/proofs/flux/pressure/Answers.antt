use mathlib.Core.List.{List, [], ◌∷◌}
use lib.IntN.{ℤ}
use Rattle.whole.specs.Machine.{X, v, ◌⊝◌, ◌⊗◌, ◌⊘◌, Entry, sized, need, value, divisor}
use Rattle.rules.specs.Limits.{deepest}
use Rattle.rules.proofs.Laws.Mixed.{apart}
use Rattle.reach.specs.Ranges.{UpTo}
use Rattle.face.specs.declared.flux.Waves.{Waves}
use Rattle.face.specs.Waves.{Apart, pressure_of}
use Rattle.face.proofs.flux.pressure.Goals as goal

abbrev env : {s : Waves} {hL hR : ℤ} → Apart s × (UpTo deepest hL × UpTo deepest hR) → List Entry
env p = sized p.0.bounded.left_in tt ∷ sized p.0.bounded.right_in tt ∷ sized p.1.0 tt ∷ sized p.1.1 tt ∷ []

abbrev sl : X
sl = v 0

abbrev sr : X
sr = v 1

abbrev hl : X
hl = v 2

abbrev hr : X
hr = v 3

abbrev above : X
above = sr ⊗ (hl ⊗ hl) ⊝ sl ⊗ (hr ⊗ hr)

pub overflow_mul-result-2 : goal.overflow_mul-result-2
overflow_mul-result-2 c = need (env c.requires) (sr ⊗ (hl ⊗ hl)) tt

pub overflow_mul-result-4 : goal.overflow_mul-result-4
overflow_mul-result-4 c = need (env c.requires) (sl ⊗ (hr ⊗ hr)) tt

pub overflow_sub-result : goal.overflow_sub-result
overflow_sub-result c = need (env c.requires) above tt

pub nonzero_div-result : goal.nonzero_div-result
nonzero_div-result c =
    let e = env c.requires in
    (divisor e (sr ⊝ sl) tt (apart c.requires.0.left c.requires.0.right), need e (above ⊘ (sr ⊝ sl)) tt)

pub returns : goal.returns
unfolding pressure_of
returns c = value (env c.requires) (above ⊘ (sr ⊝ sl)) tt
