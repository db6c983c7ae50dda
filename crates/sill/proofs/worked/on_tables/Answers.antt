-- The stage from tables that passed their checks, and what is stored where it passed its own.
use Rattle.std.proofs.Common.{rules, refl, ap}
use mir.Facts.{to_z-of_z}
use Rattle.std.specs.Int.{w64}
use Rattle.rules.proofs.Laws.Verdicts.{none_stops}
use Rattle.reach.specs.Told.{found_in}
use Rattle.reach.specs.Laws.Refusals.{went_on_none}
use Rattle.reach.specs.Laws.Checks.{handed_on}
use Rattle.sill.specs.Says.{ready_checks}
use Rattle.sill.specs.Laws.LentChecks.{lent_ranged}
use Rattle.sill.specs.Laws.OnTables.{stage_stops, stage_done}
use Rattle.sill.proofs.worked.on_tables.Goals as goal

pub stage-requires-clause-ranged : goal.stage-requires-clause-ranged
stage-requires-clause-ranged c =
    let a = c.args in lent_ranged a.call.n a.bed.now a.friction.now a.state.now c.requires.clear

pub returns-in_err-stage : goal.returns-in_err-stage
returns-in_err-stage c =
    let a = c.args in let e = c.in_err-stage.field-0.0 in
    let passed = none_stops (ready_checks a.call.n a.bed.now a.friction.now a.state.now) c.requires.clear in
    rw (handed_on c.from_residual.result e c.from_residual.ensures.1)
    (stage_stops a.call a.bed.now a.friction.now a.state.now passed refl c.stage.ensures e (ap found_in c.in_err-stage.was) a.next.now)

pub returns : goal.returns
returns c =
    let a = c.args in
    let passed = none_stops (ready_checks a.call.n a.bed.now a.friction.now a.state.now) c.requires.clear in
    stage_done a.call a.bed.now a.friction.now a.state.now passed refl c.stage.ensures (went_on_none c.in_ok-stage.was) a.next.now
    c.store.ensures (to_z-of_z {w = w64} (search rules)) (to_z-of_z {w = w64} (search rules))
