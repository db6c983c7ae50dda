-- The checks of the lent tables are made first, and the tables are no longer than the reach may be.
use Rattle.std.proofs.Common.{sym, ◌∙◌, ap, arith}
use Rattle.rules.proofs.Laws.Verdicts.{clear_found}
use Rattle.reach.specs.Told.{found_in}
use Rattle.reach.specs.Laws.Refusals.{went_on_none}
use Rattle.reach.specs.Laws.Checks.{handed_on}
use Rattle.sill.specs.Says.{ready_checks}
use Rattle.sill.specs.Laws.OnTables.{ready_stops}
use Rattle.sill.proofs.worked.on_own_tables.Goals as goal

pub returns-in_err-ready : goal.returns-in_err-ready
returns-in_err-ready g c =
    let a = c.args in let e = c.in_err-ready.field-0.0 in
    rw (handed_on c.from_residual.result e c.from_residual.ensures.1)
    (ready_stops a.call a.bed.now a.friction.now a.state.now e (sym (ap found_in c.in_err-ready.was) ∙ c.ready.ensures) a.next.now)

pub whole_as_slice-on_tables : goal.whole_as_slice-on_tables
whole_as_slice-on_tables g c = omega (arith, c.requires.room)

pub whole_as_slice-on_tables-2 : goal.whole_as_slice-on_tables-2
whole_as_slice-on_tables-2 g c = omega (arith, c.requires.room)

pub whole_as_slice-on_tables-3 : goal.whole_as_slice-on_tables-3
whole_as_slice-on_tables-3 g c = omega (arith, c.requires.room)

pub on_tables-requires-clause-clear : goal.on_tables-requires-clause-clear
on_tables-requires-clause-clear g c =
    let a = c.args in
    clear_found (ready_checks a.call.n a.bed.now a.friction.now a.state.now) tt c.ready.ensures (went_on_none c.in_ok-ready.was)
