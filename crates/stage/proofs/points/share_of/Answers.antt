-- A slope's share, in one expression.
use mathlib.Core.List.{List, [], ◌∷◌}
use lib.Dec.{lit<}
use lib.IntN.{pos}
use Rattle.whole.specs.Machine.{X, v, k, ◌⊗◌, ◌⊘◌, Entry, entry, need, value}
use Rattle.rules.specs.Stage.{share}
use Rattle.stage.proofs.points.share_of.Goals as goal

abbrev env : goal.Start → List Entry
env s = entry s.ranges.x s.requires ∷ []

abbrev above : X
above = k (pos 37837) ⊗ v 0

pub overflow_mul-result : goal.overflow_mul-result
overflow_mul-result c = need (env c) above tt

pub nonzero_div-result : goal.nonzero_div-result
nonzero_div-result c = (lit< tt, need (env c) (above ⊘ k (pos 65536)) tt)

pub returns : goal.returns
unfolding share
returns c = value (env c) (above ⊘ k (pos 65536)) tt
