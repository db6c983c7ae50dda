-- What the checks of the lent tables and of a call's numbers give where they are passed.
-- Assumes nothing.
use Rattle.std.specs.Prelude.{◌≡◌, false, List, ℕ, ◌≤◌, ◌<◌, get_or, ℤ, ◌≤ℤ◌}
use Rattle.std.proofs.Common.{arith}
use Rattle.std.proofs.Math.IntN.{pos}
use Rattle.whole.specs.Parts.{Within, b_nonneg, of_le, lt_of, le_trans, nat_nonneg}
use Rattle.tables.specs.Some.{some}
use Rattle.tables.proofs.Some.{some_none}
use Rattle.tables.specs.Pools.{pool_in}
use Rattle.rules.specs.Limits.{longest_cell, longest_step}
use Rattle.rules.specs.Refusals.{outside, bad_rough, applies, Clear}
use Rattle.rules.proofs.Laws.Accept.{none_at}
use Rattle.rules.proofs.Laws.Inside.{above_least, below_most}
use Rattle.rules.proofs.Laws.Verdicts.{check_at, clear_at}
use Rattle.reach.specs.Laws.DryList.{in_list}
use Rattle.sill_rules.specs.Refusals.{call_tests, bad_call, bad_bed, off_pool}
use Rattle.sill.specs.declared.rows.Call.{Call}
use Rattle.sill.specs.Told.{reach_in, call_in}
use Rattle.sill.specs.Ranges.{Numbers, Grounds, Smooth, Ranged}
use Rattle.sill.specs.Says.{ready_checks}

-- a number that is not outside a list whose least is not below nought
between : (a : ℤ) (m : ℕ) (z : ℤ) → pos 0 ≤ℤ a → outside a (pos m) z ≡ false → Within m z
between a m z h e = b_nonneg (le_trans h (above_least a (pos m) z e)) (below_most a (pos m) z e)

-- ---- the numbers of a call
pub numbers : (call : Call) (bed : List ℤ) (ρ : ℕ → ℤ) → 0 < call.n → call.n ≤ 1024
    → bad_call (reach_in call bed) (call_in call ρ) ≡ false → Numbers call
unfolding bad_call
numbers call bed ρ o m e =
    let fails = none_at (call_tests (reach_in call bed) (call_in call ρ)) e in
    let least = above_least (pos 1) longest_cell call.dx (fails 0) in
    record {
      some = o;
      most = m;
      dx_pos = lt_of (pos 0) call.dx (omega (arith, of_le least));
      dx_in = between (pos 1) 1048576 call.dx (nat_nonneg 1) (fails 0);
      dt_pos = le_trans (nat_nonneg 1) (above_least (pos 1) longest_step call.dt (fails 1));
      dt_in = between (pos 1) 4096 call.dt (nat_nonneg 1) (fails 1);
      dry = in_list call.dry (fails 2);
    }

-- ---- the lent tables
pub grounds : (n : ℕ) (bed : List ℤ) → some (λ i. bad_bed (get_or bed i (pos 0))) n ≡ false → Grounds bed n
unfolding bad_bed
grounds n bed e i l =
    between (pos 0) 1048576 (get_or bed i (pos 0)) (nat_nonneg 0) (some_none (λ i. bad_bed (get_or bed i (pos 0))) n e i l)

module _ (n : ℕ) (bed : List ℤ) (friction : List ℕ) (state : List ℤ) (clear : Clear (ready_checks n bed friction state)) where
  passed : (i : ℕ) → applies (check_at (ready_checks n bed friction state) i) ≡ false
  passed = clear_at (ready_checks n bed friction state) clear

  pub lent_grounds : Grounds bed n
  lent_grounds = grounds n bed (passed 0)

  pub lent_smooth : Smooth friction n
  unfolding bad_rough
  lent_smooth i l = let f = pos (get_or friction i 0) in
      (between (pos 0) 200 f (nat_nonneg 0) (some_none (λ i. bad_rough (pos (get_or friction i 0))) n (passed 1) i l)).abs

  pub lent_ranged : Ranged bed n state
  lent_ranged i l = record {
    grounded = lent_grounds i l;
    range = some_none (λ i. off_pool (get_or bed i (pos 0)) (pool_in n state i)) n (passed 2) i l;
  }

-- what values that passed are
pub ruleset lent = (lent_grounds, lent_smooth)
