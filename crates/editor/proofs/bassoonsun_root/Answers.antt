-- The root's answer, as a number and what is written.
use Rattle.std.proofs.Common.{refl, Some, None}
use Rattle.editor.specs.Told.{root_code, root_into}
use Rattle.editor.proofs.bassoonsun_root.Goals as goal

pub returns-in_default : goal.returns-in_default
unfolding root_code root_into
returns-in_default c = record { answer = None; is = c.in_default.ensures; number = refl; root = refl }

pub returns : goal.returns
unfolding root_code root_into
returns c = record { answer = Some c.in-Some.y; is = c.in-Some.ensures; number = refl; root = refl }
