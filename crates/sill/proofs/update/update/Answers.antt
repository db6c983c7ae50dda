-- Each turn writes a cell at the end of the step and, at the lowest out of range, ends the loop.
use Rattle.std.proofs.Common.{◌≡◌, sym, ◌∙◌, Bool, List, [], suc, ◌+◌, ◌<◌, get_or, ℕ, ℤ, pos, arith}
use mir.Facts.{to_z-of_z}
use Rattle.whole.specs.Parts.{fit, nat_nonneg, b_nonneg, le_trans}
use Rattle.whole.specs.Machine.{back64, rd}
use Rattle.tables.proofs.Filling.{fill_more, fill_stops, fill_ends}
use Rattle.tables.specs.Pools.{Pool, as_pool, as_row}
use Rattle.reach.specs.Places.{fill_stopped, fill_ended}
use Rattle.sill_rules.specs.Step.{dried_pool}
use Rattle.sill_rules.specs.Refusals.{off_pool}
use Rattle.sill.specs.declared.rows.Call.{Call}
use Rattle.sill.specs.declared.rows.Row.{Row}
use Rattle.sill.specs.declared.rows.FaceRow.{FaceRow}
use Rattle.sill.specs.Ranges.{Numbers, Wide, Rows, FaceRows}
use Rattle.sill.specs.Laws.PoolSizes.{update_wide, dried_wide}
use Rattle.sill.specs.Rows.{no_row, no_face, update_by, end_at}
use Rattle.sill.proofs.update.update.Goals as goal

-- cell i of the tables, as the code works it: x before it is dried and y after, over the bed zr
module _ {call : Call} (num : Numbers call) (bed : List ℤ) (b : List Row) (f : List FaceRow)
    (rows : Rows b call.n × FaceRows f call.n) (i : ℕ) (l : i < call.n) where
  abbrev moved : Pool
  moved = update_by call.dx call.dt (get_or b i no_row) (get_or f i no_face) (get_or f (suc i) no_face)

  moved_wide : Wide moved
  moved_wide =
      update_wide call.dx call.dt (rows.0 i l) (rows.1 i (omega arith)) (rows.1 (suc i) (omega arith)) num.dx_pos num.dt_in

  module _ {x : List ℤ}
      (worked : x ≡ as_row (update_by call.dx call.dt (get_or b i no_row) (get_or f i no_face) (get_or f (i + 1) no_face))) where
    moved_is : x ≡ as_row moved
    moved_is = let next : i + 1 ≡ suc i = omega arith in rw next at worked

    x_wide : Wide (as_pool x)
    x_wide = rw moved_is moved_wide

    module _ (zr : ℤ) (z_is : rd zr ≡ get_or bed i (pos 0)) {y : List ℤ}
        (dried : y ≡ as_row (dried_pool (rd call.dry) (rd zr) (as_pool x))) where
      end_is : y ≡ as_row (end_at call bed b f i)
      end_is =
          let dry = to_z-of_z (fit (b_nonneg (le_trans (nat_nonneg 1) num.dry.least) num.dry.most) tt) in
          rw (dry, z_is, moved_is) at dried

      end_wide : Wide (as_pool y)
      end_wide = rw end_is (dried_wide call.dry (get_or bed i (pos 0)) moved moved_wide)

      off_here : {r : Bool} → r ≡ off_pool (rd zr) (as_pool y) → off_pool (get_or bed i (pos 0)) (end_at call bed b f i) ≡ r
      off_here e = sym (rw (z_is, end_is) at e)

pub dried-x-requires : goal.dried-x-requires
dried-x-requires c =
    let a = c.args in let p = c.requires in let i = c.loop-i.i in
    let z = back64 c.bed_at-z.type_inv c.bed_at-z.ensures in
    (rw z (p.grounds i (omega arith)), x_wide p.numbers a.bed.now a.b.now a.f.now (p.rows, p.face_rows) i (omega arith) c.updated.ensures)

pub off_pool-requires : goal.off_pool-requires
off_pool-requires c =
    let a = c.args in let p = c.requires in let i = c.loop-i.i in
    let z = back64 c.bed_at-z.type_inv c.bed_at-z.ensures in (
      rw z (p.grounds i (omega arith)),
      end_wide p.numbers a.bed.now a.b.now a.f.now (p.rows, p.face_rows) i (omega arith) c.updated.ensures c.bed_at-z.result z
          c.dried-x.ensures,
    )

pub returns-then-off_pool : goal.returns-then-off_pool
returns-then-off_pool c =
    let a = c.args in let p = c.requires in let l = c.loop-i in
    let z = back64 c.bed_at-z.type_inv c.bed_at-z.ensures in
    let end = end_is p.numbers a.bed.now a.b.now a.f.now (p.rows, p.face_rows) l.i (omega arith) c.updated.ensures c.bed_at-z.result z
    c.dried-x.ensures in
    let off = off_here p.numbers a.bed.now a.b.now a.f.now (p.rows, p.face_rows) l.i (omega arith) c.updated.ensures c.bed_at-z.result z
    c.dried-x.ensures c.off_pool.ensures in
    fill_stopped l.i (omega arith)
    (fill_stops [] _ _ _ _ l.a l.i _ (omega arith) (omega arith) l.invariant end (off ∙ c.if-off_pool.true))

pub loop-i-preserved : goal.loop-i-preserved
loop-i-preserved c =
    let a = c.args in let p = c.requires in let l = c.loop-i in
    let z = back64 c.bed_at-z.type_inv c.bed_at-z.ensures in
    let end = end_is p.numbers a.bed.now a.b.now a.f.now (p.rows, p.face_rows) l.i (omega arith) c.updated.ensures c.bed_at-z.result z
    c.dried-x.ensures in
    let off = off_here p.numbers a.bed.now a.b.now a.f.now (p.rows, p.face_rows) l.i (omega arith) c.updated.ensures c.bed_at-z.result z
    c.dried-x.ensures c.off_pool.ensures in
    fill_more [] _ _ _ _ l.a l.i _ (omega arith) (omega arith) l.invariant end (off ∙ c.if-off_pool.false)

pub returns : goal.returns
returns c = let l = c.loop-i in fill_ended (fill_ends [] _ _ _ _ l.a l.i (omega arith) l.invariant)
