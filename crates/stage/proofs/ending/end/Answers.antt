-- What a stage leaves can be finished, and its finished cells are small enough for their range to be checked.
use Rattle.std.proofs.Common.{◌∙◌, ap, not, pos}
use Rattle.std.specs.Result.{is_ok}
use Rattle.tables.specs.Cells.{seen}
use Rattle.finishing.specs.Laws.Workable.{works_fit}
use Rattle.stage.specs.Laws.EndOfStage.{unfinished, finished_wide, end_says}
use Rattle.stage.proofs.ending.end.Goals as goal

pub unwrap-requires : goal.unwrap-requires
unwrap-requires c =
    let a = c.args in let given = c.requires in
    c.finish.ensures.works ∙ ap not (works_fit a.course.reach a.course.call a.course.bed.now a.u.now _ (record {
      lent = given.n_le_most_cells.2;
      placed = given.n_le_most_cells.3;
      most = given.n_le_most_cells.0;
      beds = given.n_le_most_cells.1;
      jump_pos = given.numbers.jump_pos;
      jump_in = given.numbers.jump_in;
      dry = given.numbers.dry;
      cells = unfinished a.course.bed.now a.course.reach.n (seen a.u.now) given.grounds.0 given.grounds.1;
    }))

pub off-requires-clause-all_unfinished : goal.off-requires-clause-all_unfinished
off-requires-clause-all_unfinished c =
    finished_wide c.finish.ensures (ap is_ok c.unwrap.ensures) (λ i. pos 0) c.requires.grounds.0 c.requires.grounds.1

pub returns : goal.returns
returns c ρ = rw c.at.ensures (end_says c.finish.ensures (ap is_ok c.unwrap.ensures) ρ c.off.result c.off.ensures)
