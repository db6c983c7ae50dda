-- Below i no side is too fast, and each cell's row is the rule's.
use Rattle.std.proofs.Common.{[]}
use Rattle.tables.proofs.Filling.{Filling}
use Rattle.tables.specs.Cells.{seen}
use Rattle.stage.specs.Rows.{sides_at, fast_sides}
use Rattle.stage.proofs.sides.sides.Given as goal

abbrev pub invariant-loop-i : goal.invariant-loop-i
invariant-loop-i l =
    let at = l.course in
    Filling [] at.reach.n (fast_sides at.call.dry at.bed.now (seen l.t)) (sides_at at.call.dry at.bed.now (seen l.t)) l.initial.d l.d l.i
