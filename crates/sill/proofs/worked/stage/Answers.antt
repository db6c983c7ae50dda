-- The stage answers by the first of its checks, and where it passed them its faces and its cells are the rule's.
use Rattle.std.proofs.Common.{sym, ◌∙◌}
use Rattle.reach.specs.declared.answer.Refusal.TheVariants.{Speed, TimeStep}
use Rattle.reach.specs.Laws.Refusals.{stopped_at, told_there, passed_by}
use Rattle.reach.specs.Laws.Checks.{handed_on}
use Rattle.sill.specs.Laws.OneStage.{stopped_says, ended_says}
use Rattle.sill.specs.Laws.OneStage.{fast_stops, rows_in, long_stops, faces_in, off_stops, none_found, stage_done}
use Rattle.sill.proofs.worked.stage.Goals as goal

pub returns-in_err-at : goal.returns-in_err-at
returns-in_err-at c =
    let a = c.args in let e = c.in_err-at.field-0.0 in let is = sym c.at.ensures ∙ c.in_err-at.was in
    stopped_says e (handed_on c.from_residual.result e c.from_residual.ensures.1)
    (told_there Speed c.rub.result e is
    ∙ fast_stops a.call c.requires.numbers a.bed.now a.friction.now a.state.now c.requires.ranged c.rub.ensures e.place
    (stopped_at Speed c.rub.result e is).0) _ _

pub faces-requires-clause-rows : goal.faces-requires-clause-rows
faces-requires-clause-rows c =
    let a = c.args in let slow = passed_by Speed c.rub.result tt (sym c.at.ensures ∙ c.in_ok-at.was) in
    rows_in a.call c.requires.numbers a.bed.now a.friction.now a.state.now c.requires.ranged c.rub.ensures slow

pub returns-in_err-at-2 : goal.returns-in_err-at-2
returns-in_err-at-2 c =
    let a = c.args in let e = c.in_err-at-2.field-0.0 in let is = sym c.at-2.ensures ∙ c.in_err-at-2.was in
    let slow = passed_by Speed c.rub.result tt (sym c.at.ensures ∙ c.in_ok-at.was) in
    stopped_says e (handed_on c.from_residual-in_err-at-2.result e c.from_residual-in_err-at-2.ensures.1)
    (told_there TimeStep c.faces.result e is
    ∙ long_stops a.call c.requires.numbers a.bed.now a.friction.now a.state.now c.requires.ranged c.rub.ensures slow c.faces.ensures
    e.place (stopped_at TimeStep c.faces.result e is).0) _ _

pub update-requires-clause-rows : goal.update-requires-clause-rows
update-requires-clause-rows c =
    let a = c.args in let slow = passed_by Speed c.rub.result tt (sym c.at.ensures ∙ c.in_ok-at.was) in
    rows_in a.call c.requires.numbers a.bed.now a.friction.now a.state.now c.requires.ranged c.rub.ensures slow

pub update-requires-clause-face_rows : goal.update-requires-clause-face_rows
update-requires-clause-face_rows c =
    let a = c.args in let slow = passed_by Speed c.rub.result tt (sym c.at.ensures ∙ c.in_ok-at.was) in
    let brief = passed_by TimeStep c.faces.result tt (sym c.at-2.ensures ∙ c.in_ok-at-2.was) in
    faces_in a.call c.requires.numbers a.bed.now a.friction.now a.state.now c.requires.ranged c.rub.ensures slow c.faces.ensures brief

pub returns : goal.returns
returns c =
    let a = c.args in let num = c.requires.numbers in let lent = c.requires.ranged in
    let slow = passed_by Speed c.rub.result tt (sym c.at.ensures ∙ c.in_ok-at.was) in
    let brief = passed_by TimeStep c.faces.result tt (sym c.at-2.ensures ∙ c.in_ok-at-2.was) in
    rw c.at-3.ensures (ended_says c.update.result
    (off_stops a.call num a.bed.now a.friction.now a.state.now lent c.rub.ensures slow c.faces.ensures brief c.update.ensures)
    (none_found a.call num a.bed.now a.friction.now a.state.now lent c.rub.ensures slow c.faces.ensures brief c.update.ensures)
    (stage_done a.call num a.bed.now a.friction.now a.state.now lent c.rub.ensures slow c.faces.ensures brief c.update.ensures))
