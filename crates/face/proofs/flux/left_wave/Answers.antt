-- The left wave of a face: its front over a dry side, else the lesser of the side's own wave and u* - a*.
use mathlib.Core.Path.{◌∙◌, ap₂}
use lib.IntN.{pos}
use borrow.Author.Rules.{rules}
use Rattle.whole.specs.Parts.{Within}
use Rattle.whole.specs.Choice.{min_z}
use Rattle.whole.specs.Machine.{X, v, k, ◌⊝◌, ◌⊗◌, value, back64}
use Rattle.rules.specs.Face.{left_wave}
use Rattle.face.proofs.Choice.{min_is}
use Rattle.face.proofs.Made.{back_h}
use Rattle.face.proofs.Waves.{u_star_size, a_star_size, waves}
use Rattle.face.proofs.flux.left_wave.Goals as goal

-- over a dry side
abbrev front : X
front = v 2 ⊝ k (pos 2) ⊗ v 3

abbrev own : X
own = v 0 ⊝ v 1

-- u* - a*
abbrev between : X
between = v 4 ⊝ v 5

pub returns-then-l-le0 : goal.returns-then-l-le0
unfolding left_wave
returns-then-l-le0 c =
    let p = c.requires.0 in let q = c.requires.1 in
    rw (simp (back_h p.sound) at c.if-l-le0.true, ← q.wave_is) (value (waves p q) front tt)

pub overflow_sub-star_speed : goal.overflow_sub-star_speed
overflow_sub-star_speed c =
    let p = c.requires.0.sound in let q = c.requires.1.sound in
    let u : Within 336336 c.star_speed.result = rw c.star_speed.ensures (u_star_size _ _ p q) in
    let a : Within 168168 c.star_wave.result = rw c.star_wave.ensures (a_star_size _ _ p q) in
    search rules

pub returns : goal.returns
unfolding left_wave
returns c =
    let p = c.requires.0 in let q = c.requires.1 in
    rw (simp (back_h p.sound) at c.if-l-le0.false, ← p.wave_is)
    (back64 c.min.type_inv (c.min.ensures.value ∙ min_is _ _ ∙ ap₂ min_z (value (waves p q) own tt)
    (rw (c.star_speed.ensures, c.star_wave.ensures) (value (waves p q) between tt))))
