-- The size of every number of a cell in range, and of one after friction and after the stage.
-- Assumes nothing.
use Rattle.std.proofs.Common.{subst, arith}
use Rattle.std.specs.Prelude.{ℤ, pos, ◌-ℤ◌, ◌≤ℤ◌, ◌<ℤ◌}
use Rattle.std.proofs.Math.Nat as NatL
use Rattle.whole.specs.Flags.{cond_ind}
use Rattle.whole.specs.Parts.{b_add, b_sub, b_mul, b_lit, b_up, b_nonneg, of_lt}
use Rattle.whole.specs.Difference.{at, lit, ◌⊞◌, ◌⊟◌, ◌⊠◌, le!, eq!, b_less, mul_nonneg}
use Rattle.whole.specs.Quotient.{b_quot, b_quot_ge}
use Rattle.whole.specs.Choice.{not_beyond, within_past}
use Rattle.tables.specs.Pools.{Pool}
use Rattle.rules.specs.Limits.{least_dry, deepest, fullest, longest_step}
use Rattle.rules.specs.Refusals.{any}
use Rattle.rules.proofs.Laws.Accept.{none_at}
use Rattle.rules.proofs.Laws.Inside.{above_least, below_most}
use Rattle.rules.proofs.Laws.Friction.{after_size}
use Rattle.rules.proofs.Laws.Sizes.{depth_size}
use Rattle.reach.specs.Ranges.{UpTo, widest}
use Rattle.sill_rules.specs.Reach.{depth, shallow}
use Rattle.sill_rules.specs.Step.{rubbed_pool, dried_pool}
use Rattle.sill_rules.specs.Refusals.{pool_tests, off_pool}
use Rattle.sill.specs.declared.rows.Row as cells
use Rattle.sill.specs.declared.rows.FaceRow as faces
use Rattle.sill.specs.Rows.{thrust, push_by, update_by}
use Rattle.sill.specs.Ranges.{highest_level, most_pressure, most_thrust, Wide, Inside, Row, FaceRow, Fits}

-- ---- a cell that passed check 5 or 8
pub record PoolSizes (z : ℤ) (x : Pool) : Type 0 where
  pub least : pos 0 ≤ℤ depth z x
  pub most : depth z x ≤ℤ deepest
  pub level : UpTo highest_level x.e
  pub flow : UpTo fullest x.q

pub pool_sizes : {z : ℤ} {x : Pool} → Inside z x → PoolSizes z x
unfolding off_pool depth
pool_sizes {z} {x} i =
    let fails = none_at (pool_tests z x) i.range in
    let low = above_least (pos 0) deepest (depth z x) (fails 0) in let high = below_most (pos 0) deepest (depth z x) (fails 0) in
    record {
      least = low;
      most = high;
      level = subst (UpTo highest_level) (eq! (at x.e ⊟ at z ⊞ at z) (at x.e) (omega arith)) (b_add (b_nonneg low high) i.grounded);
      flow = within_past 8388608 x.q (fails 1);
    }

pub pool_wide : {z : ℤ} {x : Pool} → Inside z x → Wide x
pool_wide i = let k = pool_sizes i in record { e = b_up 70368744177664 k.level tt; q = b_up 70368744177664 k.flow tt }

pub pool_fits : {z : ℤ} {x : Pool} → Inside z x → Fits x
pool_fits i = let k = pool_sizes i in record { e = k.level; q = k.flow }

-- friction leaves it in range
pub rubbed_inside : (dt d f z : ℤ) (x : Pool) → pos 0 ≤ℤ dt → least_dry ≤ℤ d → Inside z x → Inside z (rubbed_pool dt d f z x)
unfolding rubbed_pool off_pool any depth
rubbed_inside dt d f z x p l i =
    let fails = none_at (pool_tests z x) i.range in let h = x.e -ℤ z in
    let size = after_size dt d f h x.q x.q p l in
    let small = not_beyond 8388608 (rubbed_pool dt d f z x).q
    (record { abs = NatL.le_trans size (within_past 8388608 x.q (fails 1)).abs }) in
    record { grounded = i.grounded; range = rw (fails 0, small) }

-- ---- a cell after the stage, from its row x and the rows l and f of its faces
module _ {x : cells.Row} {l f : faces.FaceRow} (r : Row x) (p : FaceRow l) (q : FaceRow f) where
  pub push_size : UpTo most_pressure (push_by x l f)
  unfolding push_by
  push_size =
      let a = r.left in let b = r.right in let x = depth_size a in let y = depth_size b in
      b_sub (b_less _ _ p.K_least (mul_nonneg _ _ a.least a.least) (b_nonneg p.K_least p.K) (b_mul x x))
      (b_less _ _ q.K_least (mul_nonneg _ _ b.least b.least) (b_nonneg q.K_least q.K) (b_mul y y))

pub thrust_size : (e dx dt : ℤ) → UpTo most_pressure e → pos 0 <ℤ dx → UpTo longest_step dt → UpTo most_thrust (thrust e dx dt)
unfolding thrust
thrust_size e dx dt p h t =
    b_quot_ge 819199 (b_mul (b_mul (b_lit (pos 981)) p) t) (le! (lit 819200) (lit 819200 ⊠ at dx) (omega (arith, of_lt h)))

pub update_wide : {x : cells.Row} {l f : faces.FaceRow} (dx dt : ℤ) → Row x → FaceRow l → FaceRow f → pos 0 <ℤ dx → UpTo longest_step dt
    → Wide (update_by dx dt x l f)
unfolding update_by
update_wide dx dt r p q h t = record {
  e = b_up 70368744177664 (b_sub (b_add r.e p.vol) q.vol) tt;
  q = let e = thrust_size _ dx dt (push_size r p q) h t in
      b_up 70368744177664 (b_add (b_add r.q (b_quot dx (b_mul (b_sub p.A q.A) t))) e) tt;
}

-- and one that is dried
pub dried_wide : (d z : ℤ) (x : Pool) → Wide x → Wide (dried_pool d z x)
unfolding dried_pool
dried_wide d z x w = record {
  e = w.e;
  q = cond_ind (shallow d z x) (pos 0) x.q (UpTo widest) (λ e. b_up 70368744177664 (b_lit (pos 0)) tt) (λ e. w.q);
}
