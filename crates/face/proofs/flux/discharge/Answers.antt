use mathlib.Core.List.{[], ◌∷◌}
use lib.IntN.{pos}
use Rattle.whole.specs.Machine.{v, k, ◌⊗◌, ◌⊘◌, sized, value}
use Rattle.rules.specs.Face.{mass}
use Rattle.rules.proofs.Laws.Sizes.{depth_size}
use Rattle.face.proofs.flux.discharge.Goals as goal

pub returns : goal.returns
unfolding mass
returns c = value (sized (depth_size c.requires) tt ∷ sized c.requires.speed tt ∷ []) (v 0 ⊗ v 1 ⊘ k (pos 4096)) tt
