-- The level takes the two volumes, and of the other three numbers each is the half of two.
use Rattle.std.proofs.Common.{[], ◌∷◌, arith}
use Rattle.whole.specs.Machine.{back, back64}
use Rattle.tables.specs.Cells.{as_cell}
use Rattle.rules.specs.Step.{joined_cell}
use Rattle.stage.proofs.joining.joined_cell.Goals as goal

pub half_of-e1-requires : goal.half_of-e1-requires
half_of-e1-requires c = let p = c.requires.wide in let x = as_cell c.args.x in let y = as_cell c.args.y in
    rw (back {z = x.e1} (omega arith), back {z = y.e1} (omega arith)) (p.0.e1, p.1.e1)

pub half_of-q0-requires : goal.half_of-q0-requires
half_of-q0-requires c = let p = c.requires.wide in let x = as_cell c.args.x in let y = as_cell c.args.y in
    rw (back {z = x.q0} (omega arith), back {z = y.q0} (omega arith)) (p.0.q0, p.1.q0)

pub half_of-q1-requires : goal.half_of-q1-requires
half_of-q1-requires c = let p = c.requires.wide in let x = as_cell c.args.x in let y = as_cell c.args.y in
    rw (back {z = x.q1} (omega arith), back {z = y.q1} (omega arith)) (p.0.q1, p.1.q1)

pub returns : goal.returns
unfolding joined_cell
returns c =
    let x = as_cell c.args.x in let y = as_cell c.args.y in
    let e0 = back64 c.end_level-e0.type_inv (rw (
      back {z = x.e0} (omega arith),
      back {z = c.args.wl} (omega arith),
      back {z = c.args.wr} (omega arith),
    ) at c.end_level-e0.ensures) in
    let e1 = back64 c.half_of-e1.type_inv (rw (back {z = x.e1} (omega arith), back {z = y.e1} (omega arith)) at c.half_of-e1.ensures) in
    let q0 = back64 c.half_of-q0.type_inv (rw (back {z = x.q0} (omega arith), back {z = y.q0} (omega arith)) at c.half_of-q0.ensures) in
    let q1 = back64 c.half_of-q1.type_inv (rw (back {z = x.q1} (omega arith), back {z = y.q1} (omega arith)) at c.half_of-q1.ensures) in
    λ i. e0 i ∷ e1 i ∷ q0 i ∷ q1 i ∷ []
