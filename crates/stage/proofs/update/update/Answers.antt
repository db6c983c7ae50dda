use Rattle.std.proofs.Common.{◌≡◌, ◌∙◌, [], suc, ◌+◌, get_or, pos, arith}
use Rattle.whole.specs.Machine.{back}
use Rattle.tables.specs.Rows.{filled_more}
use Rattle.tables.specs.Cells.{as_list, seen}
use Rattle.stage.specs.Rows.{no_row, update_by, update_at}
use Rattle.stage.proofs.update.update.Goals as goal

pub loop-i-preserved : goal.loop-i-preserved
loop-i-preserved c =
    let a = c.args in let i = c.loop-i.i in let next : i + 1 ≡ suc i = omega arith in
    let momentum = back {z = get_or a.g.now i (pos 0)} (omega (arith, (c.requires.momenta i (omega arith)).abs)) in
    let written : c.updated.result ≡ as_list (update_at a.course.reach a.course.call a.course.bed.now (seen a.t.now) a.f.now a.g.now i) =
    (rw momentum at c.updated.ensures)
    ∙ (λ j. as_list (update_by a.course.reach.dx a.course.call.dt (c.under.ensures j) (seen a.t.now i)
    (get_or a.f.now i no_row) (get_or a.f.now (next j) no_row) (get_or a.g.now i (pos 0)))) in
    filled_more [] a.u.now c.loop-i.u i _ _ (omega (arith, c.loop-i.invariant.size)) c.loop-i.invariant written
