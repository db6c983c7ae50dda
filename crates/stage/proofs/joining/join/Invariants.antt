-- Below i every cell is joined, and from i on it is as it was.
use Rattle.std.proofs.Common.{[]}
use Rattle.tables.specs.Rows.{Filled}
use Rattle.tables.specs.Cells.{as_list, seen}
use Rattle.stage.specs.Rows.{join_at}
use Rattle.stage.proofs.joining.join.Given as goal

abbrev pub invariant-loop-i : goal.invariant-loop-i
invariant-loop-i l = Filled [] l.initial.u l.u l.i (λ k. as_list (join_at (seen l.x) (seen l.initial.u) l.f l.g k))
