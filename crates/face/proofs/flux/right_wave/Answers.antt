-- The right wave of a face: its front over a dry side, else the greater of the side's own wave and u* + a*.
use mathlib.Core.Path.{◌∙◌, ap₂}
use lib.IntN.{pos}
use borrow.Author.Rules.{rules}
use Rattle.whole.specs.Parts.{Within}
use Rattle.whole.specs.Choice.{max_z}
use Rattle.whole.specs.Machine.{X, v, k, ◌⊕◌, ◌⊗◌, value, back64}
use Rattle.rules.specs.Face.{right_wave}
use Rattle.face.proofs.Choice.{max_is}
use Rattle.face.proofs.Made.{back_h}
use Rattle.face.proofs.Waves.{u_star_size, a_star_size, waves}
use Rattle.face.proofs.flux.right_wave.Goals as goal

-- over a dry side
abbrev front : X
front = v 0 ⊕ k (pos 2) ⊗ v 1

abbrev own : X
own = v 2 ⊕ v 3

-- u* + a*
abbrev between : X
between = v 4 ⊕ v 5

pub returns-then-r-le0 : goal.returns-then-r-le0
unfolding right_wave
returns-then-r-le0 c =
    let p = c.requires.0 in let q = c.requires.1 in
    rw (simp (back_h q.sound) at c.if-r-le0.true, ← p.wave_is) (value (waves p q) front tt)

pub overflow_add-star_speed : goal.overflow_add-star_speed
overflow_add-star_speed c =
    let p = c.requires.0.sound in let q = c.requires.1.sound in
    let u : Within 336336 c.star_speed.result = rw c.star_speed.ensures (u_star_size _ _ p q) in
    let a : Within 168168 c.star_wave.result = rw c.star_wave.ensures (a_star_size _ _ p q) in
    search rules

pub returns : goal.returns
unfolding right_wave
returns c =
    let p = c.requires.0 in let q = c.requires.1 in
    rw (simp (back_h q.sound) at c.if-r-le0.false, ← q.wave_is)
    (back64 c.max.type_inv (c.max.ensures.value ∙ max_is _ _ ∙ ap₂ max_z (value (waves p q) own tt)
    (rw (c.star_speed.ensures, c.star_wave.ensures) (value (waves p q) between tt))))
