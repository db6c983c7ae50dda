use Rattle.std.proofs.Common.{arith}
use Rattle.std.proofs.lemmas.Int.{ints}
use lib.IntN.{pos}
use Rattle.whole.specs.Machine.{X, v, k, ◌⊕◌, ◌⊝◌, ◌⊗◌, ◌⊘◌, got, back64}
use Rattle.reach.specs.Size.{sized}
use Rattle.rules.specs.Face.{a_star}
use Rattle.face.proofs.Waves.{waves}
use Rattle.face.proofs.flux.star_wave.Goals as goal

abbrev twice : X
twice = k (pos 2) ⊗ (v 1 ⊕ v 3)

pub overflow_sub-l : goal.overflow_sub-l
overflow_sub-l c = omega (arith, ints)

pub returns : goal.returns
unfolding a_star
returns c =
    let p = c.requires.0 in let q = c.requires.1 in
    rw (← p.wave_is, ← q.wave_is)
    (back64 c.size.type_inv (sized (got (waves p q) ((twice ⊕ v 0 ⊝ v 2) ⊘ k (pos 4)) tt) c.size.ensures tt))
