-- The answer of the step that keeps the sums, told.
use lib.ListN.{length}
use Rattle.rules.specs.Lent.{Lent}
use Rattle.step.specs.Gives.{end, lend}
use Rattle.sums.specs.Gives.{KeepingGives}
use Rattle.editor.specs.Told.{keeping_place, step_told}
use Rattle.editor.proofs.bassoonsun_step_sums.Goals as goal

pub tell-requires : goal.tell-requires
tell-requires c =
    let p = c.args in
    let call : Lent = lend p.state.now (length p.next.now) p.bed.now p.friction.now p.dx p.dt p.jump p.dry
    (end p.left p.left_q) (end p.right p.right_q) in
    let gave : KeepingGives call c.step.result p.next.now c.step.new.next p.sums.now c.step.new.sums = rw c.given-call.ensures at c.step.ensures in
    keeping_place call (length p.sums.now) gave.step.says

pub returns : goal.returns
returns c =
    let p = c.args in
    let call : Lent = lend p.state.now (length p.next.now) p.bed.now p.friction.now p.dx p.dt p.jump p.dry
    (end p.left p.left_q) (end p.right p.right_q) in
    let gave : KeepingGives call c.step.result p.next.now c.step.new.next p.sums.now c.step.new.sums = rw c.given-call.ensures at c.step.ensures in
    record { step = step_told gave.step c.tell.ensures; kept = gave.kept }
