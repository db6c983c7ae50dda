use Rattle.std.proofs.Common.{[], arith}
use Rattle.whole.specs.Machine.{back64}
use Rattle.tables.specs.Rows.{filled_more}
use Rattle.stage.proofs.rubbed.rub.Goals as goal

pub loop-i-preserved : goal.loop-i-preserved
loop-i-preserved c =
    let i = c.loop-i.i in
    filled_more [] c.args.t.now c.loop-i.t i _ _ (omega (arith, c.loop-i.invariant.size)) c.loop-i.invariant
    (rw (back64 c.rough_at.type_inv c.rough_at.ensures, c.under.ensures, c.loop-i.invariant.above i (omega arith)) at c.rubbed_cell.ensures)
