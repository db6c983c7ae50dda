-- The stage may stop; else its end says whether the finished state is in range.
use Rattle.std.proofs.Common.{pos}
use Rattle.reach.specs.Laws.Refusals.{not_none, went_on_none}
use Rattle.reach.specs.Laws.Checks.{handed_on}
use Rattle.stage.specs.Laws.StateSizes.{done_small}
use Rattle.stage.specs.Laws.EndOfStage.{end_ranged}
use Rattle.stage.specs.Laws.TwoStages.{half_stops, half_ends, one_state}
use Rattle.stage.proofs.worked.stage_one.Goals as goal

pub returns-in_err-stage : goal.returns-in_err-stage
returns-in_err-stage c =
    let e = c.in_err-stage.field-0.0 in let stops = not_none e.refusal in
    rw (handed_on c.from_residual.result e c.from_residual.ensures.1) (record {
      half = λ ρ v shows. half_stops c.requires.in_order.some c.args.a.now shows (rw c.in_err-stage.was at (c.stage.ensures ρ)) stops;
      sized = λ z. absurd (stops z);
      ranged = λ z. absurd (stops z);
    })

pub end-requires-clause-grounds : goal.end-requires-clause-grounds
end-requires-clause-grounds c =
    ((λ i l. (c.requires.ranged i l).grounded), done_small ((c.stage.ensures (λ i. pos 0)).done (went_on_none c.in_ok-stage.was)))

pub returns : goal.returns
returns c =
    let a = c.args in let some = c.requires.in_order.some in let went = went_on_none c.in_ok-stage.was in
    record {
      half = λ ρ v shows. let says = c.stage.ensures ρ in
          half_ends some a.a.now shows says went (one_state some v a.a.now shows (says.done went)) (c.end.ensures ρ);
      sized = λ z. ((c.stage.ensures (λ i. pos 0)).done went).faces.sized;
      ranged = λ z. end_ranged a.course.reach a.course.call a.course.bed.now (λ i. pos 0)
          (c.end.ensures (λ i. pos 0)) z (λ i l. (c.requires.ranged i l).grounded);
    }
