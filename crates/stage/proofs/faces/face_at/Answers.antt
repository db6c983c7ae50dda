-- At an end what the end says of the side beside it, else what crosses between two sides.
use Rattle.std.proofs.Common.{sym, ◌∙◌, ap, ap₂, subst, ◌-◌, arith}
use Rattle.whole.specs.Machine.{back}
use Rattle.rules.specs.Face.{face}
use Rattle.rules.specs.Ends.{left_end, right_end}
use Rattle.rules.specs.Laws.Sizes.{Sound}
use Rattle.reach.specs.Told.{end_in}
use Rattle.stage.specs.Laws.Faces.{at_left, at_right, at_inner}
use Rattle.stage.proofs.faces.face_at.Goals as goal

pub returns-then-i-eq0 : goal.returns-then-i-eq0
returns-then-i-eq0 c =
    let a = c.args in let dry = back {z = a.course.call.dry} (omega arith) in
    (rw dry at c.left_end.ensures)
    ∙ ap (left_end face a.course.call.dry (end_in a.course.call.left)) c.left_side.ensures
    ∙ sym (at_left a.course.reach a.course.call a.d.now a.i c.if-i-eq0.true)

pub returns-then-i-course : goal.returns-then-i-course
returns-then-i-course c =
    let a = c.args in let dry = back {z = a.course.call.dry} (omega arith) in
    (rw dry at c.right_end.ensures)
    ∙ ap (right_end face a.course.call.dry (end_in a.course.call.right)) c.right_side-before.ensures
    ∙ sym (at_right a.course.reach a.course.call a.d.now a.i c.if-i-eq0.false c.if-i-course.true)

pub crossing-requires : goal.crossing-requires
crossing-requires c =
    let i = c.args.i in let sounds = c.requires.sounds in (
      subst Sound (sym c.right_side-before.ensures) (sounds (i - 1) (omega arith)).1,
      subst Sound (sym c.left_side-2.ensures) (sounds i (omega arith)).0,
    )

pub returns : goal.returns
returns c =
    let a = c.args in
    c.crossing.ensures ∙ ap₂ face c.right_side-before.ensures c.left_side-2.ensures
    ∙ sym (at_inner a.course.reach a.course.call a.d.now a.i c.if-i-eq0.false c.if-i-course.false)
