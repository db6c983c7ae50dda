-- A crest is the bed of a cell, so that it is as high as beds may be.
-- Assumes nothing.
use Rattle.std.specs.Prelude.{List, eqb, ℤ}
use Prim.Native.Nat.{ℕ, zero, suc, ◌<◌}
use Rattle.std.proofs.Common.{arith}
use Rattle.whole.specs.Flags.{by}
use Rattle.whole.specs.Choice.{b_max}
use Rattle.rules.specs.Limits.{highest_bed}
use Rattle.rules.proofs.Laws.Shown.{inside}
use Rattle.reach.specs.Ranges.{UpTo}
use Rattle.sill_rules.specs.Reach.{higher, crest_left, crest_right}
use Rattle.sill.specs.declared.rows.Call.{Call}
use Rattle.sill.specs.Told.{reach_in}
use Rattle.sill.specs.Ranges.{Grounds}
use Rattle.sill.specs.Laws.PoolSizes.{pool_wide}

module _ (call : Call) (bed : List ℤ) (grounded : Grounds bed call.n) where
  pub left_size : (i : ℕ) → i < call.n → UpTo highest_bed (crest_left (reach_in call bed) i)
  unfolding crest_left higher
  left_size zero l = grounded zero l
  left_size (suc i) l = b_max _ _ (grounded i (omega arith)) (grounded (suc i) l)

  pub right_size : (i : ℕ) → i < call.n → UpTo highest_bed (crest_right (reach_in call bed) i)
  unfolding crest_right higher
  right_size i l = by (eqb (suc i) call.n) (λ e. rw e (grounded i l))
      (λ e. rw e (b_max _ _ (grounded i l) (grounded (suc i) (inside i call.n l e))))

-- the sizes that a row is worked from
pub ruleset row_sizes = (left_size, right_size, pool_wide)
