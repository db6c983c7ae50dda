-- Who is finished as before E2.
-- Assumes nothing.
use Rattle.std.specs.Prelude.{◌≡◌, false, ℕ, suc, ◌<◌, ◌<ℤ◌}
use Rattle.std.proofs.Math.Path.{ap}
use Rattle.std.proofs.Common.{arith}
use Rattle.whole.specs.Flags.{by}
use Rattle.tables.specs.Cells.{Cell}
use Rattle.rules.specs.Reach.{Reach, Call, State, under, h0}
use Rattle.rules.specs.Finishing as rules
use Rattle.rules.specs.Finishing.{marked, spared, is_limited}
use Rattle.rules.specs.Laws.Agree.{Same}
use Rattle.rules.proofs.Laws.Limiter.{unspared}
use Rattle.before.specs.E2.{limit, finish}

module _ (r : Reach) (c : Call) (s : State) where
  -- a cell that is not spared
  unspared_limit : (i : ℕ) → spared c.dry r s i ≡ false → rules.limit r c s i ≡ limit r c s i
  unfolding rules.limit is_limited limit
  unspared_limit i e = by (marked r c s i) (λ m. rw (m, e)) (λ m. rw m)

  pub unspared_finish : (i : ℕ) → spared c.dry r s i ≡ false → rules.finish r c s i ≡ finish r c s i
  unfolding rules.finish finish
  unspared_finish i e = ap (λ (x : Cell). rules.dried c.dry (under r i) (rules.cut (under r i) x)) (unspared_limit i e)

  -- so is every one where no mean depth is at most the dry depth
  pub deep_finish : ((i : ℕ) → i < r.n → c.dry <ℤ h0 (under r i) (s i)) → Same r (rules.finish r c s) (finish r c s)
  deep_finish deep i l = unspared_finish i (unspared c.dry r s i l (deep i l) (λ k e. deep k (omega arith)) (deep (suc i)))
