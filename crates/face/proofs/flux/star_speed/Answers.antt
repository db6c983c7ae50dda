use Rattle.std.proofs.Common.{arith}
use Rattle.std.proofs.lemmas.Int.{ints}
use lib.IntN.{pos}
use Rattle.whole.specs.Machine.{X, v, k, ◌⊕◌, ◌⊝◌, ◌⊘◌, value}
use Rattle.rules.specs.Face.{u_star}
use Rattle.face.proofs.Waves.{waves}
use Rattle.face.proofs.flux.star_speed.Goals as goal

abbrev mean : X
mean = (v 0 ⊕ v 2) ⊘ k (pos 2)

pub overflow_sub-result : goal.overflow_sub-result
overflow_sub-result c = omega (arith, ints)

pub returns : goal.returns
unfolding u_star
returns c =
    let p = c.requires.0 in let q = c.requires.1 in
    rw (← p.wave_is, ← q.wave_is) (value (waves p q) (mean ⊕ v 1 ⊝ v 3) tt)
