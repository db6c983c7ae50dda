-- Friction leaves a dry cell and a calm one as they are, and of any other the slowed discharge, whose products fit: its speed was checked.
use mathlib.Core.Path.{◌≡◌, sym, ◌∙◌, ap, ap₂}
use mathlib.Core.Bool.{true}
use Prim.Native.Nat.{◌<◌, ◌^◌}
use borrow.Author.Rules.{rules}
use borrow.Author.Tests.{eq-eqb}
use lib.IntN.{ℤ, pos}
use lib.ListN.{length}
use lib.Signed.{le_z, mag}
use mir.Facts.{to_z-of_z, sfits_lit}
use Rattle.std.proofs.Common.{SFits}
use Rattle.std.specs.Int.{w64}
use Rattle.whole.specs.Parts.{fit, le_lt_trans, le_trans, nat_nonneg, b_nonneg}
use Rattle.whole.specs.Equal.{eq_yes, test_is as same_test}
use Rattle.whole.specs.Choice.{within_past}
use Rattle.whole.specs.Tests.{le_no}
use Rattle.whole.specs.Machine.{rd, back64}
use Rattle.tables.specs.Pools.{Pool, as_pool, as_row, of_two}
use Rattle.rules.specs.Limits.{fastest}
use Rattle.rules.specs.Refusals.{past}
use Rattle.rules.proofs.Laws.Friction.{after_none}
use Rattle.reach.specs.Ranges.{DryDepth}
use Rattle.sill_rules.specs.Reach.{depth, shallow}
use Rattle.sill_rules.specs.Step.{rubbed_pool}
use Rattle.sill_rules.specs.Refusals.{fast_pool}
use Rattle.sill.specs.Laws.PoolSizes.{pool_sizes, pool_wide}
use Rattle.sill.proofs.rubbing.rubbed_pool.Goals as goal
use Rattle.sill.proofs.rubbing.rubbed_pool.Goals.{then-h-call-via-then-h-call, then-h-call-via-else-h-call+then-x-eq0}

pub depth_of-h-requires : goal.depth_of-h-requires
depth_of-h-requires c = let i = c.requires.inside in rw (to_z-of_z c.ranges.z) (i.grounded, pool_wide i)

-- ---- what the two tests say
depth_is : {h z : ℤ} (x : Pool) → mag h < 2 ^ 63 → SFits w64 z → h ≡ depth (rd z) x → rd h ≡ depth z x
depth_is x small fits e = back64 small (rw (to_z-of_z fits) at e)

-- the first of them is the rule's
shallow_is : (h z : ℤ) {d : ℤ} (x : Pool) → rd h ≡ depth z x → DryDepth d → shallow d z x ≡ le_z (rd h) (rd d)
shallow_is h z x e dry = sym (ap₂ le_z e (to_z-of_z (fit (b_nonneg (le_trans (nat_nonneg 1) dry.least) dry.most) tt)))

-- ---- a cell that is left as it is
module _ (dt d f z : ℤ) (x : Pool) where
  dry_left : shallow d z x ≡ true → rubbed_pool dt d f z x ≡ x
  unfolding rubbed_pool
  dry_left e = rw e

  calm_left : x.q ≡ pos 0 → rubbed_pool dt d f z x ≡ x
  unfolding rubbed_pool
  calm_left e = λ j. record { e = x.e; q = after_none dt d f (depth z x) x.q x.q e j }

pub returns-then-h-call : goal.returns-then-h-call
returns-then-h-call c =
    let a = c.args in let call = a.call in let x = as_pool a.x in let two : length a.x ≡ 2 = search rules in
    let h = depth_is x c.depth_of-h.type_inv c.ranges.z c.depth_of-h.ensures in
    let q = fit (pool_sizes c.requires.inside).flow tt in
    of_two a.x two
    ∙ sym (ap as_row (elim c.then-h-call.branch [
      | then-h-call-via-then-h-call w ↦
          dry_left call.dt call.dry a.f a.z x (shallow_is c.depth_of-h.result a.z x h c.requires.numbers.dry ∙ w.if-h-call.true)
      | then-h-call-via-else-h-call+then-x-eq0 w ↦ calm_left call.dt call.dry a.f a.z x (eq_yes x.q (pos 0)
          (sym (same_test {a = x.q} q (sfits_lit tt)) ∙ eq-eqb _ _ w.if-x-eq0.true))
    ]))

-- what friction is given of a cell that moves
pub slowed_of-requires-clause-ranged : goal.slowed_of-requires-clause-ranged
slowed_of-requires-clause-ranged c =
    let a = c.args in let x = as_pool a.x in let p = c.requires in let num = p.numbers in
    let h = depth_is x c.depth_of-h.type_inv c.ranges.z c.depth_of-h.ensures in
    let deep = le_no (depth a.z x) a.call.dry (shallow_is c.depth_of-h.result a.z x h num.dry ∙ c.if-h-call.false) in
    rw (to_z-of_z (fit num.dt_in tt), to_z-of_z c.ranges.f, h) record {
      step = (num.dt_pos, num.dt_in);
      rough = p.rough;
      wet = (le_lt_trans num.dry.least deep, (pool_sizes p.inside).most);
    }

pub slowed_of-requires-clause-slow : goal.slowed_of-requires-clause-slow
unfolding fast_pool
slowed_of-requires-clause-slow c =
    let p = c.requires in
    rw (to_z-of_z c.ranges.u) (within_past 131072 c.args.u (ap (past fastest) p.paced ∙ p.slow))

pub slowed_of-requires-clause-full : goal.slowed_of-requires-clause-full
slowed_of-requires-clause-full c = let q = (pool_sizes c.requires.inside).flow in rw (to_z-of_z (fit q tt)) q
