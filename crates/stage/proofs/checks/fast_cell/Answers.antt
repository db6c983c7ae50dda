-- A cell in range has a speed at its mean depth, and the test of it is the rule's.
use Rattle.std.specs.Prelude.{get_or, pos}
use Rattle.std.specs.Int.{w64}
use Rattle.std.proofs.Common.{◌∙◌, ap, arith}
use Rattle.std.proofs.lemmas.Int.{to_z-of_z}
use Rattle.whole.specs.Machine.{back, back64}
use Rattle.tables.specs.Cells.{as_cell}
use Rattle.rules.specs.Limits.{fastest}
use Rattle.rules.specs.Face.{speed}
use Rattle.rules.specs.Refusals.{past, fast_cell}
use Rattle.stage.specs.Laws.CellSizes.{cell_sizes}
use Rattle.stage.proofs.checks.fast_cell.Goals as goal

pub depths-h-requires-clause-wide : goal.depths-h-requires-clause-wide
depths-h-requires-clause-wide c = (cell_sizes c.requires.inside).wide

pub speed_of-requires-clause-up_to : goal.speed_of-requires-clause-up_to
speed_of-requires-clause-up_to c = rw (back {z = (as_cell c.args.x).q0} (omega arith)) (cell_sizes c.requires.inside).q0

pub speed_of-requires-clause-depth_in : goal.speed_of-requires-clause-depth_in
speed_of-requires-clause-depth_in c =
    let m = cell_sizes c.requires.inside in
    rw (back64 {z = get_or c.depths-h.result 0 (pos 0)} (omega arith) (λ i. get_or (c.depths-h.ensures i) 0 (pos 0))) (m.mean, m.mean_most)

pub returns : goal.returns
unfolding fast_cell
returns c =
    let mean = back64 {z = get_or c.depths-h.result 0 (pos 0)} (omega arith) (λ i. get_or (c.depths-h.ensures i) 0 (pos 0)) in
    let flow = back {z = (as_cell c.args.x).q0} (omega arith) in
    c.past.ensures ∙ ap (past fastest) (back64 c.speed_of.type_inv
    (c.speed_of.ensures ∙ (λ i. speed (to_z-of_z w64 c.args.dry c.ranges.dry i) (flow i) (mean i))))
