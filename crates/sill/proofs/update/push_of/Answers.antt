-- Each square and each difference fits.
use Rattle.std.proofs.Common.{List, [], ◌∷◌}
use Rattle.whole.specs.Parts.{b_nonneg}
use Rattle.whole.specs.Machine.{X, v, ◌⊝◌, ◌⊗◌, Entry, sized, need, value}
use Rattle.rules.proofs.Laws.Sizes.{depth_size}
use Rattle.sill.specs.Rows.{push_by}
use Rattle.sill.specs.declared.rows.Row as cells
use Rattle.sill.specs.declared.rows.FaceRow as faces
use Rattle.sill.specs.Ranges.{Row, FaceRow}
use Rattle.sill.proofs.update.push_of.Goals as goal

abbrev env : {x : cells.Row} {l f : faces.FaceRow} → Row x × FaceRow l × FaceRow f → List Entry
env p =
    let x = p.0 in let l = p.1 in let f = p.2 in
    sized (b_nonneg l.K_least l.K) tt ∷ sized (depth_size x.left) tt ∷ sized (b_nonneg f.K_least f.K) tt
    ∷ sized (depth_size x.right) tt ∷ []

abbrev left : X
left = v 0 ⊝ v 1 ⊗ v 1

abbrev right : X
right = v 2 ⊝ v 3 ⊗ v 3

pub overflow_mul-result : goal.overflow_mul-result
overflow_mul-result c = need (env c.requires) (v 1 ⊗ v 1) tt

pub overflow_sub-result : goal.overflow_sub-result
overflow_sub-result c = need (env c.requires) left tt

pub overflow_mul-result-2 : goal.overflow_mul-result-2
overflow_mul-result-2 c = need (env c.requires) (v 3 ⊗ v 3) tt

pub overflow_sub-result-2 : goal.overflow_sub-result-2
overflow_sub-result-2 c = need (env c.requires) right tt

pub overflow_sub-result-3 : goal.overflow_sub-result-3
overflow_sub-result-3 c = need (env c.requires) (left ⊝ right) tt

pub returns : goal.returns
unfolding push_by
returns c = value (env c.requires) (left ⊝ right) tt
