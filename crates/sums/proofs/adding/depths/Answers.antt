use Rattle.std.proofs.Common.{arith}
use Rattle.whole.specs.Machine.{back64}
use Rattle.rules.specs.StateAndBed.{depth_in}
use Rattle.sums.specs.Laws.Adding.{added_none, added_more}
use Rattle.sums.proofs.adding.depths.Goals as goal

pub loop-i-init : goal.loop-i-init
loop-i-init c = added_none (depth_in c.args.bed.now c.args.state.now) c.args.a

pub loop-i-preserved : goal.loop-i-preserved
loop-i-preserved c =
    let l = c.loop-i in let d = c.depth-water in let is = back64 d.type_inv d.ensures.0 in
    added_more l.invariant (omega arith) (omega arith) _ is (rw (is, ← d.ensures.0) d.ensures.1)
