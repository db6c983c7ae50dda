use Rattle.std.proofs.Common.{sym, arith}
use Rattle.whole.specs.Machine.{back64}
use Rattle.reach.specs.Places.{scan_place, scan_no_place}
use Rattle.sill.proofs.checks.off_state.Goals as goal

pub returns-then-off_pool : goal.returns-then-off_pool
returns-then-off_pool c =
    scan_place c.loop-i.invariant (omega arith)
    (sym (rw (back64 c.bed_at.type_inv c.bed_at.ensures, c.pool_of.ensures.0) at c.off_pool.ensures)) c.if-off_pool.true

pub returns : goal.returns
returns c = scan_no_place c.loop-i.invariant (omega arith)
