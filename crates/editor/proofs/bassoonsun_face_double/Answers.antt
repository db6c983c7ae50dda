-- The double face's answer, as a number and what is written.
use Rattle.std.proofs.Common.{refl, Some, None, Ok, Err}
use Rattle.editor.specs.Told.{double_code, double_into}
use Rattle.editor.proofs.bassoonsun_face_double.Goals as goal

pub returns-in-Ok-Some : goal.returns-in-Ok-Some
unfolding double_code double_into
returns-in-Ok-Some c = let i = c.in-Ok-Some in
    record { answer = Ok (Some i.carried); is = rw i.field-0-is at i.ensures; number = refl; flux = refl }

pub returns-in-Ok-None : goal.returns-in-Ok-None
unfolding double_code double_into
returns-in-Ok-None c = let i = c.in-Ok-None in record { answer = Ok None; is = rw i.field-0-is at i.ensures; number = refl; flux = refl }

pub returns-in-Err : goal.returns-in-Err
unfolding double_code double_into
returns-in-Err c = record { answer = Err c.in-Err.field-0; is = c.in-Err.ensures; number = refl; flux = refl }
