-- The sum of two momenta, in one expression.
use mathlib.Core.List.{List, [], ◌∷◌}
use lib.Dec.{lit<}
use lib.IntN.{pos}
use Rattle.whole.specs.Machine.{X, v, k, ◌⊕◌, ◌⊗◌, ◌⊘◌, Entry, entry, need, value}
use Rattle.stage.proofs.points.carried_both.Goals as goal

abbrev env : goal.Start → List Entry
env s = entry s.ranges.p s.requires.up_to.0 ∷ entry s.ranges.u s.requires.up_to.1 ∷ entry s.ranges.q s.requires.up_to_2.0
    ∷ entry s.ranges.w s.requires.up_to_2.1 ∷ []

abbrev one : X
one = v 0 ⊗ v 1 ⊘ k (pos 4096)

abbrev two : X
two = v 2 ⊗ v 3 ⊘ k (pos 4096)

pub overflow_mul-result : goal.overflow_mul-result
overflow_mul-result c = need (env c) (v 0 ⊗ v 1) tt

pub nonzero_div-result : goal.nonzero_div-result
nonzero_div-result c = (lit< tt, need (env c) one tt)

pub overflow_mul-result-2 : goal.overflow_mul-result-2
overflow_mul-result-2 c = need (env c) (v 2 ⊗ v 3) tt

pub nonzero_div-result-2 : goal.nonzero_div-result-2
nonzero_div-result-2 c = (lit< tt, need (env c) two tt)

pub overflow_add-result : goal.overflow_add-result
overflow_add-result c = need (env c) (one ⊕ two) tt

pub returns : goal.returns
returns c = value (env c) (one ⊕ two) tt
