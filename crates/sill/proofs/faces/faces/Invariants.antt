-- Below i the step is too long at no face, and each face's row is the rule's.
use Rattle.std.proofs.Common.{suc}
use Rattle.tables.proofs.Filling.{Filling}
use Rattle.sill.specs.Rows.{no_face, long_at, face_row_at}
use Rattle.sill.proofs.faces.faces.Given as goal

abbrev pub invariant-loop-i : goal.invariant-loop-i
invariant-loop-i l = Filling no_face (suc l.call.n) (long_at l.call l.b) (face_row_at l.call l.b) l.initial.f l.f l.i
