-- Each turn rubs a cell, which is still the one that was lent.
use mathlib.Core.List.{[]}
use Rattle.tables.specs.Rows.{Filled}
use Rattle.tables.specs.Cells.{as_list, seen}
use Rattle.stage.specs.Rows.{rubbed_at}
use Rattle.stage.proofs.rubbed.rub.Given as goal

abbrev pub invariant-loop-i : goal.invariant-loop-i
invariant-loop-i l = Filled [] l.initial.t l.t l.i (λ k. as_list (rubbed_at l.course.call l.friction l.course.bed.now (seen l.initial.t) k))
