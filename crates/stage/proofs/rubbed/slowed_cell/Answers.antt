-- The level stays, and of each discharge is left what friction leaves.
use mathlib.Core.List.{[], ◌∷◌}
use lib.ListN.{get_or}
use lib.IntN.{pos}
use mir.Facts.{to_z-of_z}
use Rattle.whole.specs.Machine.{back, back64}
use Rattle.stage.proofs.rubbed.slowed_cell.Goals as goal

pub slowed_by-requires : goal.slowed_by-requires
slowed_by-requires c =
    let s = c.before.before.before in
    rw (to_z-of_z s.ranges.d, back c.slowed_by-arg-1.given) record { pos_bound = s.requires.pos_bound; up_to = s.requires.up_to.0 }

pub slowed_by-requires-2 : goal.slowed_by-requires-2
slowed_by-requires-2 c =
    let s = c.before.before.before.before.before in
    rw (to_z-of_z s.ranges.d, back c.slowed_by-arg-2-1.given) record { pos_bound = s.requires.pos_bound; up_to = s.requires.up_to.1 }

pub returns : goal.returns
returns c =
    let a2 = c.before in
    let b = a2.before in
    let a1 = b.before in
    let t9 = a1.before in
    let t6 = t9.before in
    let s = t6.before in
    let x = s.args.x in
    let q0 = back64 b.slowed_by.type_inv
    (rw (to_z-of_z s.ranges.d, back {z = get_or x 2 (pos 0)} a1.slowed_by-arg-1.given) at b.slowed_by.ensures) in
    let q1 = back64 c.slowed_by-2.type_inv
    (rw (to_z-of_z s.ranges.d, back {z = get_or x 3 (pos 0)} a2.slowed_by-arg-2-1.given) at c.slowed_by-2.ensures) in
    λ i. back {z = get_or x 0 (pos 0)} t6.result-1.given i ∷ back {z = get_or x 1 (pos 0)} t9.result-2-1.given i ∷ q0 i ∷ q1 i ∷ []
