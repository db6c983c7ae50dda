-- The level with the two volumes fits, and is the rule's.
use mathlib.Core.List.{List, [], ◌∷◌}
use Rattle.whole.specs.Machine.{v, ◌⊕◌, ◌⊝◌, Entry, entry, need, value}
use Rattle.stage.proofs.joining.end_level.Goals as goal

abbrev env : goal.Start → List Entry
env s = entry s.ranges.e s.requires.0 ∷ entry s.ranges.wl s.requires.1 ∷ entry s.ranges.wr s.requires.2 ∷ []

pub overflow_add-result : goal.overflow_add-result
overflow_add-result c = need (env c) (v 0 ⊕ v 1) tt

pub overflow_sub-result : goal.overflow_sub-result
overflow_sub-result c = need (env c) (v 0 ⊕ v 1 ⊝ v 2) tt

pub returns : goal.returns
returns c = value (env c) (v 0 ⊕ v 1 ⊝ v 2) tt
