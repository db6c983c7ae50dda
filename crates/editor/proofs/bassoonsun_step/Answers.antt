-- The step's answer, told.
use lib.ListN.{length}
use Rattle.rules.specs.Lent.{Lent, step_of}
use Rattle.step.specs.Gives.{end, lend, Gives}
use Rattle.editor.specs.Told.{step_place, step_told}
use Rattle.editor.proofs.bassoonsun_step.Goals as goal

pub tell-requires : goal.tell-requires
tell-requires c =
    let p = c.args in
    let call : Lent = lend p.state.now (length p.next.now) p.bed.now p.friction.now p.dx p.dt p.jump p.dry
    (end p.left p.left_q) (end p.right p.right_q) in
    let gave : Gives (step_of call) c.step.result p.next.now c.step.new.next = rw c.given-call.ensures at c.step.ensures in
    step_place call gave.says

pub returns : goal.returns
returns c =
    let p = c.args in
    let call : Lent = lend p.state.now (length p.next.now) p.bed.now p.friction.now p.dx p.dt p.jump p.dry
    (end p.left p.left_q) (end p.right p.right_q) in
    let gave : Gives (step_of call) c.step.result p.next.now c.step.new.next = rw c.given-call.ensures at c.step.ensures in
    step_told gave c.tell.ensures
