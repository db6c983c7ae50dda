-- Below i the step is too long at no face, and each face's row is the rule's.
use Rattle.std.proofs.Common.{suc}
use Rattle.tables.proofs.Filling.{Filling}
use Rattle.stage.specs.Rows.{no_row, long_at, face_row_at}
use Rattle.stage.proofs.faces.faces.Given as goal

abbrev pub invariant-loop-i : goal.invariant-loop-i
invariant-loop-i l =
    let at = l.course in
    Filling no_row (suc at.reach.n) (long_at at.reach at.call l.d) (face_row_at at.reach at.call l.d) l.initial.f l.f l.i
