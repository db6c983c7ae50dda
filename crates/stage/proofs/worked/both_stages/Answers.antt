-- The two halves, in a row, are the step from stage one on.
use Rattle.reach.specs.Laws.Refusals.{not_none, went_on_none}
use Rattle.reach.specs.Laws.Checks.{handed_on}
use Rattle.stage.specs.Laws.TwoStages.{both_stop, one_shown, both_end}
use Rattle.stage.proofs.worked.both_stages.Goals as goal

pub returns-in_err-stage_one : goal.returns-in_err-stage_one
returns-in_err-stage_one c ρ s shows =
    let e = c.in_err-stage_one.field-0.0 in
    rw (handed_on c.from_residual.result e c.from_residual.ensures.1)
    (both_stop s (rw c.in_err-stage_one.was at (c.stage_one.ensures.half ρ s shows)) (not_none e.refusal))

pub returns : goal.returns
returns c ρ s shows =
    let half = c.stage_one.ensures.half ρ s shows in let passed = went_on_none c.in_ok-stage_one.was in
    both_end s half passed (c.stage_two.ensures ρ s shows (half.done passed).faces (one_shown s half passed))
