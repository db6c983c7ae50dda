-- Below i every cell is the rule's.
use mathlib.Core.List.{[]}
use Rattle.tables.specs.Rows.{Filled}
use Rattle.tables.specs.Cells.{as_list, seen}
use Rattle.stage.specs.Rows.{update_at}
use Rattle.stage.proofs.update.update.Given as goal

abbrev pub invariant-loop-i : goal.invariant-loop-i
invariant-loop-i l = let at = l.course in
    Filled [] l.initial.u l.u l.i (λ k. as_list (update_at at.reach at.call at.bed.now (seen l.t) l.f l.g k))
