-- What an accepted step writes passes, over its bed, the checks of a state that is lent without a call.
-- Assumes nothing.
use Rattle.std.specs.Prelude.{◌≡◌, false, ℕ, suc, ◌*◌, length, get_or, pos}
use Rattle.std.proofs.Math.Path.{refl, ap}
use Rattle.std.proofs.Common.{sym, ◌∙◌, arith}
use borrow.Author.Tests.{ne_eqb, le-ltb, eq-eqb}
use Rattle.tables.specs.Some.{some}
use Rattle.tables.proofs.Some.{some_same}
use Rattle.tables.specs.Cells.{cell_in, table_of}
use Rattle.tables.proofs.Cells.{length_table, cell_in_table}
use Rattle.rules.specs.Limits.{most_cells}
use Rattle.rules.specs.Reach.{under, bed_at}
use Rattle.rules.specs.Step.{next}
use Rattle.rules.specs.Refusals.{any, bad_bed, off_cell, off, early, Clear}
use Rattle.rules.specs.Lent.{Lent, cells_of, reach_of, call_of, state_of, number, filled}
use Rattle.rules.specs.Found.{Found}
use Rattle.rules.specs.StateAndBed.{cells_over, misfit_state, state_checks, state_refusal}
use Rattle.rules.proofs.Laws.Verdicts.{clear_at, of_call_lem, none_stops}
use Rattle.rules.proofs.Laws.Order as order
use Rattle.rules.proofs.Laws.Lengths.{Fitted, fitted, fits, unrefused}
use Rattle.rules.proofs.Laws.Runs.{accepted, accepted_early}

module _ (l : Lent) (ok : number l ≡ 0) where
  abbrev n : ℕ
  n = cells_of l

  lengths : Fitted (length l.now) l.room (length l.bed) n
  lengths = fitted (length l.now) l.room (length l.bed) n (fits l ok)

  -- its bed has a value for each face of its cells
  pub cells_over_lem : cells_over l.bed ≡ n
  cells_over_lem = omega (arith, lengths.beds)

  pub length_written : length (filled l) ≡ 4 * n
  unfolding filled
  length_written = length_table n (next (reach_of l) (call_of l) (state_of l))

  -- no cell that it writes is out of range
  pub written_in_range : some (λ i. off_cell (bed_at l.bed i) (cell_in n (filled l) i)) n ≡ false
  unfolding off filled
  written_in_range = let r = reach_of l in let end = next r (call_of l) (state_of l) in
      some_same (λ i. off_cell (under r i) (cell_in n (table_of n end) i)) (off r end) n
      (λ i b. ap (off_cell (under r i)) (cell_in_table n end i b))
      ∙ (accepted r (call_of l) (state_of l) (unrefused l ok)).end

  written_fits : misfit_state (length (filled l)) n ≡ false
  unfolding misfit_state any
  written_fits = rw (
    ne_eqb n 0 (λ e. let z : ⊥ = omega (arith, lengths.some) in z),
    le-ltb most_cells n lengths.most,
    eq-eqb (length (filled l)) (4 * n) length_written,
  ) refl

  bed_even : some (λ i. bad_bed (get_or l.bed i (pos 0))) (suc n) ≡ false
  unfolding early
  bed_even = let r = reach_of l in
      clear_at (early r (call_of l) (state_of l)) (accepted_early r (call_of l) (state_of l) (unrefused l ok)) order.beds

  pub written_passes : state_refusal l.bed (filled l) ≡ 0
  unfolding state_refusal state_checks
  written_passes = ap (λ (f : Found). f.no) (sym (none_stops (state_checks l.bed (filled l)) clear))
    where
      clear : Clear (state_checks l.bed (filled l))
      clear = rw cells_over_lem (of_call_lem 1 (misfit_state (length (filled l)) n) ∙ written_fits, (bed_even, (written_in_range, tt)))
