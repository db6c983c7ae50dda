-- The step, and then the sums of what it wrote.
use Rattle.std.proofs.Common.{sym, ◌∙◌, length}
use Rattle.rules.specs.Lent.{Lent}
use Rattle.rules.proofs.Laws.Questions.{unkept, kept_step}
use Rattle.reach.specs.Laws.Checks.{handed_on}
use Rattle.stage.specs.Worked.{lent_by}
use Rattle.sums.specs.Answered.{keeping_ready, keeping_none, keeping_refused, keeping_accepted}
use Rattle.sums.proofs.step.Goals as goal

pub returns-then-bad_sums : goal.returns-then-bad_sums
returns-then-bad_sums c =
    let p = c.args in let call : Lent = lent_by p.state.now (length p.next.now) p.bed.now p.friction.now p.call in
    let sums = p.sums.now in let old = p.next.now in
    rw c.into.ensures (keeping_none call old old sums (unkept call (length sums) (sym c.bad_sums.ensures ∙ c.if-bad_sums.true)))

pub returns-in_err-volumes : goal.returns-in_err-volumes
returns-in_err-volumes c =
    let p = c.args in let call : Lent = lent_by p.state.now (length p.next.now) p.bed.now p.friction.now p.call in
    let e = c.in_err-volumes.field-0.0 in
    rw (handed_on c.from_residual.result e c.from_residual.ensures.1)
    (keeping_refused call p.next.now _ p.sums.now (kept_step call (length p.sums.now) (sym c.if-bad_sums.ensures)) c.step.ensures e
    c.in_err-volumes.was)

pub fill-requires : goal.fill-requires
fill-requires c =
    let p = c.args in let call : Lent = lent_by p.state.now (length p.next.now) p.bed.now p.friction.now p.call in
    keeping_ready call p.next.now _ p.sums.now c.in_ok-volumes.volumes c.step.ensures c.in_ok-volumes.was (sym c.if-bad_sums.ensures)

pub returns : goal.returns
returns c =
    let p = c.args in let call : Lent = lent_by p.state.now (length p.next.now) p.bed.now p.friction.now p.call in
    keeping_accepted call p.next.now _ p.sums.now (kept_step call (length p.sums.now) (sym c.if-bad_sums.ensures)) c.step.ensures
    c.in_ok-volumes.volumes c.in_ok-volumes.was _ c.fill.ensures
