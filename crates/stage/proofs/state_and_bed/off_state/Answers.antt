use Rattle.std.proofs.Common.{sym, arith}
use Rattle.reach.specs.Places.{scan_place, scan_no_place}
use Rattle.stage.proofs.state_and_bed.off_state.Goals as goal

pub returns : goal.returns
returns c = scan_no_place c.loop-i.invariant (omega arith)

pub returns-then-off_cell : goal.returns-then-off_cell
returns-then-off_cell c =
    scan_place c.loop-i.invariant (omega arith) (sym (rw (c.under.ensures, c.cell_of.ensures.0) at c.off_cell.ensures)) c.if-off_cell.true
