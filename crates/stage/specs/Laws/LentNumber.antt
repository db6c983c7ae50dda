-- What the numbers that passed check 2 are; and the step's number and place by the check that stopped it.
-- Assumes nothing.
use Rattle.std.specs.Prelude.{◌≡◌, Bool, true, false, List, ◌∷◌, ◌++◌, ℕ, length, ℤ, pos}
use Rattle.std.proofs.Math.Path.{sym}
use Rattle.std.proofs.Common.{arith}
use Rattle.whole.specs.Parts.{of_le, lt_of, le_trans, nat_nonneg}
use Rattle.tables.specs.Some.{some, lowest}
use Rattle.rules.specs.Limits.{longest_cell, longest_step, largest_jump}
use Rattle.rules.specs.Refusals.{call_tests, bad_call, off, fast_friction, Check, of_call, verdict, spot, stage_checks, early, checks}
use Rattle.rules.proofs.Laws.Accept.{none_at}
use Rattle.rules.proofs.Laws.Inside.{above_least}
use Rattle.rules.specs.Found.{at, found, found_of}
use Rattle.rules.proofs.Laws.Lengths.{first_found, later_found}
use Rattle.rules.specs.Lent.{Lent, reach_of, call_of, state_of, misfit}
use Rattle.reach.specs.declared.Reach.{Reach}
use Rattle.reach.specs.declared.Call.{Call}
use Rattle.reach.specs.declared.Given.{Given}
use Rattle.rules.proofs.Laws.EndChecks.{inflow_in}
use Rattle.reach.specs.Told.{end_in, reach_in, call_on}
use Rattle.reach.specs.Ranges.{Numbers}
use Rattle.reach.specs.Laws.DryList.{in_list}
use Rattle.stage.specs.Says.{ready_checks, both_checks}
use Rattle.stage.specs.Worked.{lent_by}
use Rattle.stage.specs.Laws.LentChecks.{between}

-- ---- numbers
pub numbers : (reach : Reach) (call : Call) (bed : List ℤ) (ρ : ℕ → ℤ)
    → bad_call (reach_in reach bed) (call_on call ρ) ≡ false → Numbers reach call
unfolding bad_call
numbers reach call bed ρ e =
    let fails = none_at (call_tests (reach_in reach bed) (call_on call ρ)) e in
    let least = above_least (pos 1) longest_cell reach.dx (fails 0) in
    record {
      dx_pos = lt_of (pos 0) reach.dx (omega (arith, of_le least));
      dx_in = between (pos 1) 1048576 reach.dx (nat_nonneg 1) (fails 0);
      dt_pos = le_trans (nat_nonneg 1) (above_least (pos 1) longest_step call.dt (fails 1));
      dt_in = between (pos 1) 4096 call.dt (nat_nonneg 1) (fails 1);
      jump_pos = above_least (pos 0) largest_jump call.jump (fails 2);
      jump_in = between (pos 0) 262144 call.jump (nat_nonneg 0) (fails 2);
      dry = in_list call.dry (fails 3);
      left_q = inflow_in (end_in call.left) (fails 4);
      right_q = inflow_in (end_in call.right) (fails 5);
    }

-- the numbers of a call as its caller gave them, widened
abbrev pub reach_by : ℕ → Given → Reach
reach_by n g = record { n = n; dx = pos g.dx }

abbrev pub call_by : Given → Call
call_by g = record { dt = pos g.dt; jump = pos g.jump; dry = pos g.dry; left = g.left; right = g.right }

-- ---- the step's number and place, by the check that stopped it
module _ (state : List ℤ) (room : ℕ) (bed : List ℤ) (friction : List ℕ) (given : Given) where
  abbrev lent : Lent
  lent = lent_by state room bed friction given

  abbrev n : ℕ
  n = length friction

  pub length_found : misfit (length state) room (length bed) n ≡ true → at 1 0 ≡ found_of lent
  length_found e = first_found lent e

  module _ (e : misfit (length state) room (length bed) n ≡ false) where
    abbrev bad : Bool
    bad = bad_call (reach_of lent) (call_of lent)

    -- the checks after 2 are those of the step on tables
    abbrev further : List Check
    further = ready_checks (call_of lent).dry n bed friction (state_of lent) ++ both_checks (reach_of lent) (call_of lent) (state_of lent)

    after : found (of_call 2 bad ∷ further) ≡ found_of lent
    unfolding checks early stage_checks off fast_friction
    after = later_found lent e

    pub call_found : bad ≡ true → at 2 0 ≡ found_of lent
    unfolding verdict spot some lowest
    call_found b = (rw b at after)

    pub later_checks : bad ≡ false → found_of lent ≡ found further
    unfolding verdict spot some
    later_checks b = sym (rw b at after)
