use Rattle.std.proofs.Common.{◌≡◌, ◌∙◌, sym, subst, List, [], suc, ◌+◌, ℤ, arith}
use Rattle.whole.specs.Parts.{b_up}
use Rattle.whole.specs.Machine.{back64}
use Rattle.tables.specs.Rows.{filled_more}
use Rattle.tables.specs.Cells.{as_cell, as_list, seen}
use Rattle.rules.specs.Step.{half, joined_cell}
use Rattle.reach.specs.Ranges.{UpTo, widest, Wide}
use Rattle.stage.specs.declared.rows.FaceRow.{FaceRow}
use Rattle.stage.specs.Rows.{volume_at}
use Rattle.stage.specs.Ranges.{Row}
use Rattle.stage.specs.Laws.CellSizes.{half_size}
use Rattle.stage.proofs.joining.join.Goals as goal

-- half of two volumes is small enough to be added to a level
volume_in : {l m : FaceRow} → Row l × Row m → UpTo widest (half l.volume m.volume)
volume_in r = half_size (b_up 70368744177664 r.0.vol tt) (b_up 70368744177664 r.1.vol tt)

pub joined_cell-requires-clause-wide : goal.joined_cell-requires-clause-wide
joined_cell-requires-clause-wide c =
    let i = c.loop-i.i in
    let cell = c.loop-i.invariant.above i (omega arith) in
    (c.requires.wides.0 i (omega arith), subst (λ (m : List ℤ). Wide (as_cell m)) (sym cell) (c.requires.wides.1 i (omega arith)))

pub joined_cell-requires-clause-up_to : goal.joined_cell-requires-clause-up_to
joined_cell-requires-clause-up_to c =
    let i = c.loop-i.i in let rows = c.requires.face_rows in
    let wl = back64 c.end_volume-wl.type_inv c.end_volume-wl.ensures in
    let wr = back64 c.end_volume-wr.type_inv c.end_volume-wr.ensures in (
      rw wl (volume_in (rows.0 i (omega arith), rows.1 i (omega arith))),
      rw wr (volume_in (rows.0 (i + 1) (omega arith), rows.1 (i + 1) (omega arith))),
    )

pub loop-i-preserved : goal.loop-i-preserved
loop-i-preserved c =
    let a = c.args in let i = c.loop-i.i in let next : i + 1 ≡ suc i = omega arith in
    let cell = c.loop-i.invariant.above i (omega arith) in
    let wl = back64 c.end_volume-wl.type_inv c.end_volume-wl.ensures in
    let wr = back64 c.end_volume-wr.type_inv (c.end_volume-wr.ensures ∙ (λ j. volume_at a.f.now a.g.now (next j))) in
    filled_more [] a.u.now c.loop-i.u i _ c.joined_cell.result (omega (arith, c.loop-i.invariant.size)) c.loop-i.invariant
    (c.joined_cell.ensures ∙ (λ j. as_list (joined_cell (seen a.x.now i) (as_cell (cell j)) (wl j) (wr j))))
