-- The two surveys of a lent call: beds and frictions are each other's from the other end, and the tables fit both or neither.
-- Assumes nothing.
use Rattle.std.specs.Prelude.{◌≡◌, false, reverse, length, get_or, pos}
use Rattle.std.proofs.Math.Path.{sym, ap}
use Rattle.std.proofs.Common.{◌∙◌}
use Prim.Native.Nat.{ℕ, suc, ◌-◌}
use native.Mathlib.Omega.{arith}
use Rattle.std.proofs.lemmas.List.{length-reverse}
use Rattle.tables.specs.Reversed.{get_d_reverse}
use Rattle.tables.proofs.Cells.{length_table}
use Rattle.rules.specs.Lent.{Lent, cells_of, reach_of, call_of, state_of, misfit, misfits}
use Rattle.rules.proofs.Laws.Lengths.{Fitted, fitted}
use Rattle.survey.specs.Turned.{turned_cell, turned_table, turned_call}
use Rattle.survey.proofs.Laws.Surveys.{Surveys}

module _ (l : Lent) (fit : misfits l ≡ false) where
  abbrev n : ℕ
  n = cells_of l

  pub lengths : Fitted (length l.now) l.room (length l.bed) n
  lengths = fitted (length l.now) l.room (length l.bed) n fit

  -- the call as it stands, and the turned one
  abbrev pub surveys : Surveys
  surveys = record {
    reach = reach_of l;
    call = call_of l;
    bed = λ i. get_or (reverse l.bed) i (pos 0);
    rough = λ i. pos (get_or (reverse l.friction) i 0);
    beds = λ i j o. get_d_reverse (pos 0) l.bed i j (omega (arith, lengths.beds));
    roughs = λ i j o. ap pos (get_d_reverse 0 l.friction i j o);
  }

  -- which has as many cells, and whose state is turned
  pub cells : cells_of (turned_call l) ≡ n
  cells = length-reverse l.friction

  pub fits_too : misfits (turned_call l) ≡ misfits l
  unfolding turned_table
  fits_too =
      let state = length_table n (λ i. turned_cell (state_of l (n - suc i))) ∙ sym lengths.now in
      λ m. misfit (state m) l.room (length-reverse l.bed m) (cells m)
