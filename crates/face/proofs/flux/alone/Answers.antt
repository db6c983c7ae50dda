-- What one side carries by itself: the discharge is the rule's, and no product leaves 64 bits.
use mathlib.Core.List.{List, [], ◌∷◌}
use lib.IntN.{pos}
use mir.Facts.{to_z-of_z}
use Rattle.whole.specs.Machine.{v, k, ◌⊗◌, ◌⊘◌, Entry, sized, need, value, back64}
use Rattle.rules.specs.Face.{Side, alone}
use Rattle.rules.specs.Laws.Sizes.{Sound}
use Rattle.rules.proofs.Laws.Sizes.{depth_size, mass_size}
use Rattle.face.proofs.Made.{made}
use Rattle.face.proofs.flux.alone.Goals as goal

-- the depth, the speed and the discharge of the side
abbrev env : {x : Side} → Sound x → List Entry
env s = sized (depth_size s) tt ∷ sized s.speed tt ∷ sized (mass_size s) tt ∷ []

pub overflow_mul-result-2 : goal.overflow_mul-result-2
overflow_mul-result-2 c = rw c.discharge-m.ensures (need (env c.requires) (v 2 ⊗ v 1) tt)

pub returns : goal.returns
unfolding alone
returns c =
    let m = c.discharge-m in
    made (alone _ c.args.s) (back64 m.type_inv m.ensures) (value (env c.requires) (v 0 ⊗ v 0) tt)
    (rw m.ensures (value (env c.requires) (v 2 ⊗ v 1 ⊘ k (pos 4096)) tt)) (to_z-of_z c.ranges.s)
