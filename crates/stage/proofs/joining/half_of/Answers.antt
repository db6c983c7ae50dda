-- The sum of two such numbers fits, and so its half.
use mathlib.Core.List.{List, [], ◌∷◌}
use lib.Dec.{lit<}
use lib.IntN.{pos}
use Rattle.whole.specs.Machine.{v, k, ◌⊕◌, ◌⊘◌, Entry, entry, need, value}
use Rattle.rules.specs.Step.{half}
use Rattle.stage.proofs.joining.half_of.Goals as goal

abbrev env : goal.Start → List Entry
env s = entry s.ranges.x s.requires.0 ∷ entry s.ranges.y s.requires.1 ∷ []

pub overflow_add-result : goal.overflow_add-result
overflow_add-result c = need (env c) (v 0 ⊕ v 1) tt

pub nonzero_div-result : goal.nonzero_div-result
nonzero_div-result c = (lit< tt, need (env c) ((v 0 ⊕ v 1) ⊘ k (pos 2)) tt)

pub returns : goal.returns
unfolding half
returns c = value (env c) ((v 0 ⊕ v 1) ⊘ k (pos 2)) tt
