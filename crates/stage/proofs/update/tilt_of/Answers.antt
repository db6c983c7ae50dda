-- The mean is within the deepest and the slope within half of it, so every square and product of D stays small.
use mathlib.Core.List.{List}
use lib.Dec.{lit<}
use lib.IntN.{pos}
use Rattle.whole.specs.Machine.{X, v, k, ◌⊕◌, ◌⊝◌, ◌⊗◌, ◌⊘◌, Entry, need, value}
use Rattle.stage.specs.Laws.UpdateSizes.{six}
use Rattle.stage.specs.Rows.{tilt_of}
use Rattle.stage.proofs.update.tilt_of.Goals as goal

abbrev env : goal.Start → List Entry
env s = six s.requires

abbrev faces : X
faces = k (pos 3) ⊗ v 5 ⊕ k (pos 3) ⊗ v 4

abbrev means : X
means = k (pos 6) ⊗ (v 0 ⊗ v 0)

abbrev slopes : X
slopes = k (pos 2) ⊗ (v 1 ⊗ v 1)

abbrev grounded : X
grounded = (v 3 ⊝ v 2) ⊘ k (pos 2)

abbrev whole : X
whole = faces ⊝ means ⊝ slopes ⊕ k (pos 4) ⊗ (v 1 ⊗ grounded)

pub nonzero_div-result : goal.nonzero_div-result
nonzero_div-result c = (lit< tt, need (env c) grounded tt)

pub returns : goal.returns
unfolding tilt_of
returns c = value (env c) whole tt

pub overflow_mul-result : goal.overflow_mul-result
overflow_mul-result c = need (env c) (k (pos 3) ⊗ v 5) tt

pub overflow_mul-result-2 : goal.overflow_mul-result-2
overflow_mul-result-2 c = need (env c) (k (pos 3) ⊗ v 4) tt

pub overflow_add-result : goal.overflow_add-result
overflow_add-result c = need (env c) faces tt

pub overflow_mul-result-3 : goal.overflow_mul-result-3
overflow_mul-result-3 c = need (env c) (v 0 ⊗ v 0) tt

pub overflow_mul-result-4 : goal.overflow_mul-result-4
overflow_mul-result-4 c = need (env c) means tt

pub overflow_sub-result : goal.overflow_sub-result
overflow_sub-result c = need (env c) (faces ⊝ means) tt

pub overflow_mul-result-5 : goal.overflow_mul-result-5
overflow_mul-result-5 c = need (env c) (v 1 ⊗ v 1) tt

pub overflow_mul-result-6 : goal.overflow_mul-result-6
overflow_mul-result-6 c = need (env c) slopes tt

pub overflow_sub-result-2 : goal.overflow_sub-result-2
overflow_sub-result-2 c = need (env c) (faces ⊝ means ⊝ slopes) tt

pub overflow_sub-result-3 : goal.overflow_sub-result-3
overflow_sub-result-3 c = need (env c) (v 3 ⊝ v 2) tt

pub overflow_mul-result-7 : goal.overflow_mul-result-7
overflow_mul-result-7 c = need (env c) (v 1 ⊗ grounded) tt

pub overflow_mul-result-8 : goal.overflow_mul-result-8
overflow_mul-result-8 c = need (env c) (k (pos 4) ⊗ (v 1 ⊗ grounded)) tt

pub overflow_add-result-2 : goal.overflow_add-result-2
overflow_add-result-2 c = need (env c) whole tt
