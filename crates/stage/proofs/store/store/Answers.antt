use Rattle.std.proofs.Common.{arith}
use Rattle.tables.specs.Cells.{seen}
use Rattle.tables.proofs.Cells.{cells_all}
use Rattle.stage.proofs.store.store.Goals as goal

pub returns : goal.returns
returns c = cells_all c.args.n (seen c.args.y.now) c.loop-i.next c.loop-i.invariant.0 (λ m k h b. c.loop-i.invariant.1 m k h (omega arith))
