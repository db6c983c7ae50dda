-- What a state is that passed the checks that need no call: its lengths, and the depths of its cells.
-- Assumes nothing.
use Rattle.std.specs.Prelude.{◌≡◌, false, List, ℕ, ◌*◌, ◌<◌, ltb, length, ℤ, pos, ◌≤ℤ◌}
use Rattle.std.proofs.Common.{sym, ◌∙◌, arith, nltb→le}
use Rattle.whole.specs.Flags.{failed}
use Rattle.whole.specs.Difference.{at, lit, ◌⊞◌, ◌⊟◌, le!, le?}
use Rattle.tables.proofs.Some.{some_none}
use Rattle.tables.specs.Cells.{Cell, cell_in}
use Rattle.rules.specs.Limits.{deepest}
use Rattle.rules.specs.Reach.{Bed, bed_at, h0, h1, hl, hr}
use Rattle.rules.specs.Refusals.{cell_tests, off_cell}
use Rattle.rules.specs.StateAndBed.{cells_over, depth_in, state_tests, misfit_state, state_checks, state_refusal}
use Rattle.rules.proofs.Laws.Inside.{above_least, below_most}
use Rattle.rules.proofs.Laws.Accept.{none_at}
use Rattle.rules.proofs.Laws.Verdicts.{cleared, clear_at, of_call_lem}
use Rattle.rules.proofs.Laws.Lengths.{same, above}
use Rattle.rules.proofs.Laws.Positive.{mean≥0}
use Rattle.rules.specs.Laws.StateAndBed.{StateFits}

pub state_fits : (state n : ℕ) → misfit_state state n ≡ false → StateFits state n
unfolding misfit_state
state_fits state n e =
    let fails = none_at (state_tests state n) e in
    record {
      some = above n (fails 0);
      most = nltb→le 1024 n (failed (ltb 1024 n) (fails 1));
      state = same state (4 * n) (fails 2);
    }

-- ---- the mean depth of a cell in range, whose two face depths lie about it
pub mean_in : (b : Bed) (x : Cell) → off_cell b x ≡ false → (pos 0 ≤ℤ h0 b x) × (h0 b x ≤ℤ deepest)
unfolding off_cell hl hr
mean_in b x e =
    let fails = none_at (cell_tests b x) e in let m = h0 b x in let d = h1 b x in
    let left = below_most (pos 0) deepest (hl b x) (fails 0) in let right = below_most (pos 0) deepest (hr b x) (fails 1) in (
      mean≥0 b x (record {
        left = above_least (pos 0) deepest (hl b x) (fails 0);
        right = above_least (pos 0) deepest (hr b x) (fails 1);
      }),
      le! (at m) (lit 262144) (omega (arith, le? (at m ⊟ at d) (lit 262144) left, le? (at m ⊞ at d) (lit 262144) right)),
    )

-- ---- a state that passed them all
pub state_clear : (bed t : List ℤ) → state_refusal bed t ≡ 0 → misfit_state (length t) (cells_over bed) ≡ false
unfolding state_refusal state_checks
state_clear bed t e =
    sym (of_call_lem 1 (misfit_state (length t) (cells_over bed))) ∙ clear_at (state_checks bed t) (cleared (state_checks bed t) tt (sym e)) 0

pub state_passed : (bed t : List ℤ) → state_refusal bed t ≡ 0
    → StateFits (length t) (cells_over bed)
    × ((i : ℕ) → i < cells_over bed → (pos 0 ≤ℤ depth_in bed t i) × (depth_in bed t i ≤ℤ deepest))
unfolding state_refusal state_checks
state_passed bed t e =
    let n = cells_over bed in let clear = clear_at (state_checks bed t) (cleared (state_checks bed t) tt (sym e)) in (
      state_fits (length t) n (state_clear bed t e),
      λ i l. mean_in (bed_at bed i) (cell_in n t i) (some_none (λ i. off_cell (bed_at bed i) (cell_in n t i)) n (clear 2) i l),
    )
