-- The stage may stop; else the end state is joined, and its end says whether that is in range.
use Rattle.std.proofs.Common.{pos}
use Rattle.reach.specs.Laws.Refusals.{not_none, went_on_none}
use Rattle.reach.specs.Laws.Checks.{handed_on}
use Rattle.stage.specs.Laws.StateSizes.{small_wide, inside_small, done_small, join_small}
use Rattle.stage.specs.Laws.TwoStages.{half_stops, half_ends, two_state}
use Rattle.stage.proofs.worked.stage_two.Goals as goal

pub returns-in_err-stage : goal.returns-in_err-stage
returns-in_err-stage c ρ v shows faces one =
    let e = c.in_err-stage.field-0.0 in
    rw (handed_on c.from_residual.result e c.from_residual.ensures.1)
    (half_stops c.requires.in_order.some c.args.b.now one (rw c.in_err-stage.was at (c.stage.ensures ρ)) (not_none e.refusal))

pub join-requires-clause-wides : goal.join-requires-clause-wides
join-requires-clause-wides c =
    let done = (c.stage.ensures (λ i. pos 0)).done (went_on_none c.in_ok-stage.was) in
    ((λ i l. small_wide (inside_small (c.requires.ranged.0 i l))), (λ i l. small_wide (done_small done i l)))

pub join-requires-clause-face_rows : goal.join-requires-clause-face_rows
join-requires-clause-face_rows c =
    (c.requires.face_rows, ((c.stage.ensures (λ i. pos 0)).done (went_on_none c.in_ok-stage.was)).faces.sized)

pub end-requires-clause-grounds : goal.end-requires-clause-grounds
end-requires-clause-grounds c =
    let done = (c.stage.ensures (λ i. pos 0)).done (went_on_none c.in_ok-stage.was) in (
      (λ i l. (c.requires.ranged.0 i l).grounded),
      join_small c.args.course.bed.now c.join.ensures c.requires.ranged.0 (done_small done) c.requires.face_rows done.faces.sized,
    )

pub returns : goal.returns
returns c ρ v shows faces one =
    let a = c.args in let some = c.requires.in_order.some in let went = went_on_none c.in_ok-stage.was in let says = c.stage.ensures ρ in
    half_ends some a.b.now one says went
    (two_state some v a.a.now shows a.b.now one faces (says.done went) c.join.ensures) (c.end.ensures ρ)
