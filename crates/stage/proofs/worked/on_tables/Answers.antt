-- Each part is given what the one before it left, and the laws put them together.
use Rattle.std.proofs.Common.{ap, arith}
use Rattle.whole.specs.Machine.{back64}
use Rattle.reach.specs.Told.{found_in}
use Rattle.reach.specs.Laws.Refusals.{went_on_none}
use Rattle.reach.specs.Laws.Checks.{handed_on}
use Rattle.stage.specs.Laws.OnTables.{loaded, ready_stops, loaded_ranged, loaded_slow}
use Rattle.stage.specs.Laws.OnTables.{rubbed_ranged, both_said, both_stops, both_fits, both_done}
use Rattle.stage.proofs.worked.on_tables.Goals as goal

pub returns-in_err-ready : goal.returns-in_err-ready
returns-in_err-ready c =
    let at = c.args.course in let e = c.in_err-ready.field-0.0 in
    rw (handed_on c.from_residual.result e c.from_residual.ensures.1)
    (ready_stops (loaded at.reach at.call c.load.ensures c.ready.ensures) e c.in_err-ready.was _)

pub rub-requires-clause-ranged : goal.rub-requires-clause-ranged
rub-requires-clause-ranged c =
    let at = c.args.course in
    loaded_ranged (loaded at.reach at.call c.load.ensures c.ready.ensures) (went_on_none c.in_ok-ready.was)

pub rub-requires-clause-slows : goal.rub-requires-clause-slows
rub-requires-clause-slows c =
    let at = c.args.course in
    loaded_slow (loaded at.reach at.call c.load.ensures c.ready.ensures) (went_on_none c.in_ok-ready.was)

pub both_stages-requires-clause-ranged : goal.both_stages-requires-clause-ranged
both_stages-requires-clause-ranged c =
    let at = c.args.course in let given = c.requires.in_order.0.numbers in
    rubbed_ranged (loaded at.reach at.call c.load.ensures c.ready.ensures) (went_on_none c.in_ok-ready.was) c.rub.ensures
    given.dt_pos given.dry.least

pub returns-in_err-both_stages : goal.returns-in_err-both_stages
returns-in_err-both_stages c =
    let at = c.args.course in let e = c.in_err-both_stages.field-0.0 in
    let lent = loaded at.reach at.call c.load.ensures c.ready.ensures in let z = went_on_none c.in_ok-ready.was in
    rw (handed_on c.from_residual-in_err-both_stages.result e c.from_residual-in_err-both_stages.ensures.1)
    (both_stops lent z c.requires.in_order.0.some (both_said lent z c.rub.ensures c.both_stages.ensures) e
    (ap found_in c.in_err-both_stages.was) _)

pub store-requires : goal.store-requires
store-requires c =
    let at = c.args.course in let given = c.requires.in_order in
    let lent = loaded at.reach at.call c.load.ensures c.ready.ensures in let z = went_on_none c.in_ok-ready.was in
    let both = both_said lent z c.rub.ensures c.both_stages.ensures in (
      omega (arith, c.both_stages.auto, c.requires.room),
      given.0.most,
      given.2,
      both_fits lent z given.0.some both (went_on_none c.in_ok-both_stages.was),
    )

pub end_volume-requires-clause-row : goal.end_volume-requires-clause-row
end_volume-requires-clause-row c =
    let at = c.args.course in let lent = loaded at.reach at.call c.load.ensures c.ready.ensures in
    let both = both_said lent (went_on_none c.in_ok-ready.was) c.rub.ensures c.both_stages.ensures in
    let ends = both.done (went_on_none c.in_ok-both_stages.was) in (ends.one.sized 0 (omega arith), ends.two.sized 0 (omega arith))

pub end_volume-requires-2-clause-row : goal.end_volume-requires-2-clause-row
end_volume-requires-2-clause-row c =
    let at = c.args.course in let lent = loaded at.reach at.call c.load.ensures c.ready.ensures in
    let both = both_said lent (went_on_none c.in_ok-ready.was) c.rub.ensures c.both_stages.ensures in
    let ends = both.done (went_on_none c.in_ok-both_stages.was) in
    (ends.one.sized at.reach.n (omega arith), ends.two.sized at.reach.n (omega arith))

pub returns : goal.returns
returns c =
    let at = c.args.course in
    let lent = loaded at.reach at.call c.load.ensures c.ready.ensures in let z = went_on_none c.in_ok-ready.was in
    both_done lent z c.requires.in_order.0.some (both_said lent z c.rub.ensures c.both_stages.ensures)
    (went_on_none c.in_ok-both_stages.was) c.args.next.now c.store.ensures
    (back64 c.end_volume.type_inv c.end_volume.ensures) (back64 c.end_volume-2.type_inv c.end_volume-2.ensures)
