-- Each turn tries the speed of a cell and then writes its row; at the lowest that is too fast the loop ends.
use Rattle.std.proofs.Common.{◌≡◌, sym, ◌∙◌, ap, List, get_or, length-set, ◌<◌, ◌^◌, ℤ, pos, arith}
use mir.Facts.{to_z-of_z}
use Rattle.std.specs.Int.Signed.{mag}
use Rattle.whole.specs.Parts.{fit, nat_nonneg, b_nonneg, le_trans}
use Rattle.whole.specs.Machine.{back64, rd}
use Rattle.tables.proofs.Scan.{scan_more}
use Rattle.tables.specs.Rows.{written_more}
use Rattle.tables.specs.Pools.{Pool, as_pool, as_row}
use Rattle.rules.specs.Limits.{fullest, fastest}
use Rattle.rules.specs.Face.{speed}
use Rattle.rules.specs.Refusals.{past}
use Rattle.reach.specs.Ranges.{UpTo, DryDepth}
use Rattle.reach.specs.Places.{scan_place, scan_no_place, never}
use Rattle.sill_rules.specs.Reach.{depth, pace}
use Rattle.sill_rules.specs.Step.{rubbed}
use Rattle.sill_rules.specs.Refusals.{fast_pool, fast_friction}
use Rattle.sill.specs.Rows.{no_row}
use Rattle.sill.specs.Laws.PoolSizes.{pool_sizes, rubbed_inside}
use Rattle.sill.proofs.rubbing.rub.Goals as goal

-- what the code works of a cell over its bed is the rule's depth and speed
module _ (zr : ℤ) {z : ℤ} {x : List ℤ} {cell : Pool} (z_is : rd zr ≡ z) (x_is : x ≡ as_row cell) where
  depth_is : {h : ℤ} → mag h < 2 ^ 63 → h ≡ depth (rd zr) (as_pool x) → rd h ≡ depth z cell
  depth_is small e = back64 small (rw (z_is, x_is) at e)

  speed_is : {d h u : ℤ} → DryDepth d → UpTo fullest cell.q → mag h < 2 ^ 63 → h ≡ depth (rd zr) (as_pool x)
      → mag u < 2 ^ 63 → u ≡ speed (rd d) (rd (get_or x 1 (pos 0))) (rd h) → rd u ≡ pace d z cell
  unfolding pace
  speed_is dry flow small deep slow e =
      let d = to_z-of_z (fit (b_nonneg (le_trans (nat_nonneg 1) dry.least) dry.most) tt) in
      let q = to_z-of_z (fit flow tt) in
      back64 slow (rw (x_is, d, q, depth_is small deep) at e)

pub speed_of-u-requires-clause-up_to : goal.speed_of-u-requires-clause-up_to
speed_of-u-requires-clause-up_to c =
    let m = pool_sizes (c.requires.ranged c.loop-i.i (omega arith)) in
    rw (c.pool_of-x.ensures.0, to_z-of_z (fit m.flow tt)) m.flow

pub speed_of-u-requires-clause-pos_bound : goal.speed_of-u-requires-clause-pos_bound
speed_of-u-requires-clause-pos_bound c =
    let m = pool_sizes (c.requires.ranged c.loop-i.i (omega arith)) in
    let z = back64 c.bed_at-z.type_inv c.bed_at-z.ensures in
    rw (depth_is c.bed_at-z.result z c.pool_of-x.ensures.0 c.depth_of.type_inv c.depth_of.ensures) (m.least, m.most)

pub returns-then-past : goal.returns-then-past
unfolding fast_friction fast_pool
returns-then-past c =
    let m = pool_sizes (c.requires.ranged c.loop-i.i (omega arith)) in
    let z = back64 c.bed_at-z.type_inv c.bed_at-z.ensures in
    let u = speed_is c.bed_at-z.result z c.pool_of-x.ensures.0 c.requires.numbers.dry m.flow c.depth_of.type_inv c.depth_of.ensures
    c.speed_of-u.type_inv c.speed_of-u.ensures in
    record {
      stops = scan_place c.loop-i.invariant.0 (omega arith) (sym (c.past.ensures ∙ ap (past fastest) u)) c.if-past.true;
      rows = λ m. never (sym m);
    }

pub returns : goal.returns
returns c = record {
  stops = scan_no_place c.loop-i.invariant.0 (omega arith);
  rows = λ m k h. c.loop-i.invariant.2 k (omega arith);
}

-- ---- the cell after friction
pub rubbed_pool-requires-clause-rough : goal.rubbed_pool-requires-clause-rough
rubbed_pool-requires-clause-rough c =
    rw (back64 c.rough_at.type_inv c.rough_at.ensures)
    (nat_nonneg (get_or c.args.friction.now c.loop-i.i 0), record { abs = c.requires.smooth c.loop-i.i (omega arith) })

pub rubbed_pool-requires-clause-inside : goal.rubbed_pool-requires-clause-inside
rubbed_pool-requires-clause-inside c =
    rw (back64 c.bed_at-z.type_inv c.bed_at-z.ensures, c.pool_of-x.ensures.0) (c.requires.ranged c.loop-i.i (omega arith))

pub rubbed_pool-requires-clause-paced : goal.rubbed_pool-requires-clause-paced
rubbed_pool-requires-clause-paced c =
    let m = pool_sizes (c.requires.ranged c.loop-i.i (omega arith)) in
    let z = back64 c.bed_at-z.type_inv c.bed_at-z.ensures in
    rw (z, c.pool_of-x.ensures.0) (speed_is c.bed_at-z.result z c.pool_of-x.ensures.0 c.requires.numbers.dry m.flow c.depth_of.type_inv
    c.depth_of.ensures c.speed_of-u.type_inv c.speed_of-u.ensures)

pub rubbed_pool-requires-clause-slow : goal.rubbed_pool-requires-clause-slow
unfolding fast_pool
rubbed_pool-requires-clause-slow c =
    let m = pool_sizes (c.requires.ranged c.loop-i.i (omega arith)) in
    let z = back64 c.bed_at-z.type_inv c.bed_at-z.ensures in
    let u = speed_is c.bed_at-z.result z c.pool_of-x.ensures.0 c.requires.numbers.dry m.flow c.depth_of.type_inv c.depth_of.ensures
    c.speed_of-u.type_inv c.speed_of-u.ensures in
    rw (z, c.pool_of-x.ensures.0) (sym (c.past.ensures ∙ ap (past fastest) u) ∙ c.if-past.false)

pub row_of-requires-clause-inside : goal.row_of-requires-clause-inside
row_of-requires-clause-inside c =
    let num = c.requires.numbers in let a = c.args in let i = c.loop-i.i in
    let z = back64 c.bed_at-z.type_inv c.bed_at-z.ensures in let rough = back64 c.rough_at.type_inv c.rough_at.ensures in
    rw (rw (rough, z, c.pool_of-x.ensures.0) at c.rubbed_pool.ensures)
    (rubbed_inside a.call.dt a.call.dry (pos (get_or a.friction.now i 0)) _ _ num.dt_pos num.dry.least
    (c.requires.ranged i (omega arith)))

pub loop-i-preserved : goal.loop-i-preserved
unfolding rubbed fast_friction fast_pool
loop-i-preserved c =
    let l = c.loop-i in let m = pool_sizes (c.requires.ranged l.i (omega arith)) in
    let z = back64 c.bed_at-z.type_inv c.bed_at-z.ensures in let rough = back64 c.rough_at.type_inv c.rough_at.ensures in
    let u = speed_is c.bed_at-z.result z c.pool_of-x.ensures.0 c.requires.numbers.dry m.flow c.depth_of.type_inv c.depth_of.ensures
    c.speed_of-u.type_inv c.speed_of-u.ensures in
    let end = rw (rough, z, c.pool_of-x.ensures.0) at c.rubbed_pool.ensures in (
      scan_more l.invariant.0 (omega arith) (sym (c.past.ensures ∙ ap (past fastest) u)) c.if-past.false,
      length-set l.b l.i _ ∙ l.invariant.1,
      written_more no_row l.b l.i _ _ (omega (arith, l.invariant.1)) l.invariant.2 (rw end at c.row_of.ensures),
    )
