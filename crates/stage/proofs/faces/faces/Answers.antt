use Rattle.std.proofs.Common.{◌∙◌, sym, ap, subst, ◌+◌, arith}
use Rattle.tables.proofs.Filling.{fill_more, fill_stops, fill_ends}
use Rattle.rules.specs.Laws.Sizes.{Sized}
use Rattle.reach.specs.Places.{fill_stopped, fill_ended}
use Rattle.stage.specs.Rows.{no_row, face_row, long_flux}
use Rattle.stage.specs.Laws.Faces.{cross_sized}
use Rattle.stage.proofs.faces.faces.Goals as goal

pub face_row-requires-clause-sized : goal.face_row-requires-clause-sized
face_row-requires-clause-sized c =
    let a = c.args in let sided = c.requires.sounds in
    subst Sized (sym c.face_at-x.ensures)
    (cross_sized a.course.reach a.course.call a.d.now c.requires.n_nonzero.0 c.requires.numbers sided.0 sided.1 c.loop-i.i (omega arith))

pub too_long-requires-clause-sized : goal.too_long-requires-clause-sized
too_long-requires-clause-sized c =
    let a = c.args in let sided = c.requires.sounds in
    subst Sized (sym c.face_at-x.ensures)
    (cross_sized a.course.reach a.course.call a.d.now c.requires.n_nonzero.0 c.requires.numbers sided.0 sided.1 c.loop-i.i (omega arith))

pub returns-then-too_long : goal.returns-then-too_long
returns-then-too_long c =
    let a = c.args in let l = c.loop-i in
    fill_stopped l.i (omega arith) (fill_stops no_row _ _ _ _ l.f l.i _ (omega arith) (omega arith) l.invariant
    (c.face_row.ensures ∙ ap (face_row a.course.reach.dx a.course.call.dt) c.face_at-x.ensures)
    (ap (long_flux a.course.reach.dx a.course.call.dt) (sym c.face_at-x.ensures) ∙ sym c.too_long.ensures ∙ c.if-too_long.true))

pub returns-else-too_long : goal.returns-else-too_long
returns-else-too_long c =
    let a = c.args in let l = c.loop-i in
    fill_ended (fill_ends no_row _ _ _ _ _ (l.i + 1) (omega arith)
    (fill_more no_row _ _ _ _ l.f l.i _ (omega arith) (omega arith) l.invariant
    (c.face_row.ensures ∙ ap (face_row a.course.reach.dx a.course.call.dt) c.face_at-x.ensures)
    (ap (long_flux a.course.reach.dx a.course.call.dt) (sym c.face_at-x.ensures) ∙ sym c.too_long.ensures ∙ c.if-too_long.false)))
