-- The points of a cell are those of its depth and its discharge, each with the share of its slope.
use Rattle.std.specs.Prelude.{get_or, pos}
use Rattle.std.proofs.Common.{arith}
use Rattle.whole.specs.Parts.{b_up}
use Rattle.whole.specs.Machine.{back, back64}
use Rattle.tables.specs.Cells.{as_cell}
use Rattle.rules.specs.Stage.{gauss}
use Rattle.stage.specs.Laws.CellSizes.{cell_sizes}
use Rattle.stage.specs.Rows.{point_row}
use Rattle.stage.proofs.points.points_of.Goals as goal

pub depths-h-requires-clause-wide : goal.depths-h-requires-clause-wide
depths-h-requires-clause-wide c = (cell_sizes c.requires.inside).wide

pub share_of-requires : goal.share_of-requires
share_of-requires c =
    let slope = back64 {z = get_or c.depths-h.result 1 (pos 0)} (omega arith) (λ j. get_or (c.depths-h.ensures j) 1 (pos 0)) in
    rw slope (b_up 8388608 (cell_sizes c.requires.inside).slope tt)

pub share_of-requires-2 : goal.share_of-requires-2
share_of-requires-2 c = rw (back {z = (as_cell c.args.x).q1} (omega arith)) (cell_sizes c.requires.inside).q1

pub pair_of-requires-clause-around : goal.pair_of-requires-clause-around
pair_of-requires-clause-around c =
    let x = as_cell c.args.x in
    let mean = back64 {z = get_or c.depths-h.result 0 (pos 0)} (omega arith) (λ j. get_or (c.depths-h.ensures j) 0 (pos 0)) in
    let slope = back64 {z = get_or c.depths-h.result 1 (pos 0)} (omega arith) (λ j. get_or (c.depths-h.ensures j) 1 (pos 0)) in
    let depth_share = back64 c.share_of.type_inv (rw slope at c.share_of.ensures) in
    let flow_share = back64 c.share_of-2.type_inv (rw (back {z = x.q1} (omega arith)) at c.share_of-2.ensures) in
    rw (mean, depth_share, back {z = x.q0} (omega arith), flow_share) (cell_sizes c.requires.inside).points

pub returns : goal.returns
unfolding point_row gauss
returns c =
    let x = as_cell c.args.x in
    let mean = back64 {z = get_or c.depths-h.result 0 (pos 0)} (omega arith) (λ j. get_or (c.depths-h.ensures j) 0 (pos 0)) in
    let slope = back64 {z = get_or c.depths-h.result 1 (pos 0)} (omega arith) (λ j. get_or (c.depths-h.ensures j) 1 (pos 0)) in
    let depth_share = back64 c.share_of.type_inv (rw slope at c.share_of.ensures) in
    let flow_share = back64 c.share_of-2.type_inv (rw (back {z = x.q1} (omega arith)) at c.share_of-2.ensures) in
    rw (back {z = c.args.dry} (omega arith), mean, depth_share, back {z = x.q0} (omega arith), flow_share) at c.pair_of.ensures
