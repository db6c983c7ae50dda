use Rattle.std.proofs.Common.{sym, arith}
use Rattle.whole.specs.Machine.{back}
use Rattle.reach.specs.Places.{scan_place, scan_no_place}
use Rattle.stage.proofs.checks.fast.Goals as goal

pub returns-then-fast_cell : goal.returns-then-fast_cell
returns-then-fast_cell c =
    let dry = back {z = c.args.course.call.dry} (omega arith) in
    scan_place c.loop-i.invariant (omega arith) (sym (rw (dry, c.under.ensures) at c.fast_cell.ensures)) c.if-fast_cell.true

pub returns : goal.returns
returns c = scan_no_place c.loop-i.invariant (omega arith)
