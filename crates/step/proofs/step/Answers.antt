-- What was worked is the step of the call.
use Rattle.std.proofs.Common.{length}
use Rattle.stage.specs.Worked.{lent_by}
use Rattle.step.specs.Answered.{worked}
use Rattle.step.proofs.step.Goals as goal

pub returns : goal.returns
returns c =
    let a = c.args in
    worked (lent_by a.state.now (length a.next.now) a.bed.now a.friction.now a.call) c.work.result a.next.now _ c.work.ensures
