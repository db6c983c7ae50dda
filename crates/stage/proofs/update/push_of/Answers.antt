-- The mean is within the deepest and the slope within half of it, so every sum and product of E stays small.
use mathlib.Core.List.{List}
use Rattle.whole.specs.Machine.{X, v, ◌⊕◌, ◌⊝◌, ◌⊗◌, Entry, need, value}
use Rattle.stage.specs.Laws.UpdateSizes.{six}
use Rattle.stage.specs.Rows.{push_of}
use Rattle.stage.proofs.update.push_of.Goals as goal

abbrev env : goal.Start → List Entry
env s = six s.requires

abbrev left : X
left = v 0 ⊝ v 1

abbrev right : X
right = v 0 ⊕ v 1

abbrev grounded : X
grounded = (right ⊕ left) ⊗ (v 3 ⊝ v 2)

abbrev whole : X
whole = v 4 ⊝ v 5 ⊝ grounded

pub returns : goal.returns
unfolding push_of
returns c = value (env c) whole tt

pub overflow_sub-left : goal.overflow_sub-left
overflow_sub-left c = need (env c) left tt

pub overflow_add-right : goal.overflow_add-right
overflow_add-right c = need (env c) right tt

pub overflow_sub-result : goal.overflow_sub-result
overflow_sub-result c = need (env c) (v 4 ⊝ v 5) tt

pub overflow_add-result : goal.overflow_add-result
overflow_add-result c = need (env c) (right ⊕ left) tt

pub overflow_sub-result-2 : goal.overflow_sub-result-2
overflow_sub-result-2 c = need (env c) (v 3 ⊝ v 2) tt

pub overflow_mul-result : goal.overflow_mul-result
overflow_mul-result c = need (env c) grounded tt

pub overflow_sub-result-3 : goal.overflow_sub-result-3
overflow_sub-result-3 c = need (env c) whole tt
