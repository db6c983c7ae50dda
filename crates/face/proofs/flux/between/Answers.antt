-- Depths and discharges can both be mixed between the waves, and the four values are the rule's.
use mir.Facts.{to_z-of_z}
use borrow.Author.Rules.{rules}
use Rattle.whole.specs.Parts.{Within}
use Rattle.whole.specs.Machine.{back64}
use Rattle.rules.specs.Face.{between}
use Rattle.rules.proofs.Laws.Sizes.{mass_size}
use Rattle.face.specs.Waves.{pressure_of}
use Rattle.face.proofs.Made.{made, back_h, back_u}
use Rattle.face.proofs.flux.between.Goals as goal

pub mixed-a-requires : goal.mixed-a-requires
mixed-a-requires c =
    let ml : Within 8388608 c.discharge.result = rw c.discharge.ensures (mass_size c.requires.sound.0) in
    let mr : Within 8388608 c.discharge-2.result = rw c.discharge-2.ensures (mass_size c.requires.sound.1) in
    search (rules, ml, mr)

pub returns : goal.returns
unfolding between pressure_of
returns c =
    let p = c.requires.sound.0 in let q = c.requires.sound.1 in
    let ml = back64 c.discharge.type_inv c.discharge.ensures in
    let mr = back64 c.discharge-2.type_inv c.discharge-2.ensures in
    made (between _ _ c.args.waves.sl c.args.waves.sr c.args.s)
    (back64 c.mixed-f.type_inv (simp (back_h p, back_h q, back_u p, back_u q) at c.mixed-f.ensures))
    (back64 c.pressure-k.type_inv (simp (back_h p, back_h q) at c.pressure-k.ensures))
    (back64 c.mixed-a.type_inv (simp (ml, mr, back_u p, back_u q) at c.mixed-a.ensures))
    (to_z-of_z c.ranges.s)
