-- Below i no point is too fast, and each cell's momentum is the rule's.
use Rattle.std.proofs.Common.{pos}
use Rattle.tables.proofs.Filling.{Filling}
use Rattle.tables.specs.Cells.{seen}
use Rattle.stage.specs.Rows.{fast_points_at, momentum_at}
use Rattle.stage.proofs.points.points.Given as goal

abbrev pub invariant-loop-i : goal.invariant-loop-i
invariant-loop-i l =
    let at = l.course in
    Filling (pos 0) at.reach.n (fast_points_at at.call.dry at.bed.now (seen l.t))
    (momentum_at at.call.dry at.bed.now (seen l.t)) l.initial.g l.g l.i
