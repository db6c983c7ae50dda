-- The step's answer, told.
use lib.ListN.{length}
use Rattle.sill_rules.specs.Lent.{Lent, step_of}
use Rattle.reach.specs.Gives.{Gives}
use Rattle.editor.specs.Told.{sill_lend, sill_place, step_told}
use Rattle.editor.proofs.bassoonsun_sill_step.Goals as goal

pub tell-requires : goal.tell-requires
tell-requires c =
    let p = c.args in
    let call : Lent = sill_lend p.state.now (length p.next.now) p.bed.now p.friction.now p.dx p.dt p.dry p.left p.right in
    let gave : Gives (step_of call) c.step.result p.next.now c.step.new.next = c.step.ensures in
    sill_place call gave.says

pub returns : goal.returns
returns c =
    let p = c.args in
    let call : Lent = sill_lend p.state.now (length p.next.now) p.bed.now p.friction.now p.dx p.dt p.dry p.left p.right in
    let gave : Gives (step_of call) c.step.result p.next.now c.step.new.next = c.step.ensures in
    step_told gave c.tell.ensures
