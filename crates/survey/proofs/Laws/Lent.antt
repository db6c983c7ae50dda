-- A call from the other end, on the lent tables: the same number, and where it is accepted the turned table, and the volumes exchanged with
-- their signs changed.
-- Assumes nothing.
use Rattle.std.specs.Prelude.{◌≡◌, false, length, pos, neg_ℤ}
use Rattle.std.proofs.Math.Path.{sym, ap}
use Rattle.std.proofs.Common.{◌∙◌}
use Prim.Native.Nat.{ℕ, suc, ◌+◌, ◌-◌}
use native.Mathlib.Omega.{arith}
use Rattle.tables.specs.Cells.{cell_in, table_of}
use Rattle.tables.proofs.Cells.{cell_in_table, table_same}
use Rattle.rules.specs.Face.{face}
use Rattle.rules.specs.Reach.{Reach, State}
use Rattle.rules.specs.Step.{carry, next}
use Rattle.rules.specs.Refusals.{refusal}
use Rattle.rules.specs.Lent.{Lent, cells_of, reach_of, call_of, state_of, misfits, number, filled, crossed}
use Rattle.rules.proofs.Laws.Face.{lawful}
use Rattle.rules.proofs.Laws.Lengths.{Fitted, later_number, unrefused}
use Rattle.rules.proofs.Laws.Runs.{Accepted, accepted}
use Rattle.survey.specs.Turned.{turned_cell, turned_table, turned_call}
use Rattle.survey.proofs.Laws.Surveys.{Surveys, other_reach, Turned}
use Rattle.survey.proofs.Laws.Both as both
use Rattle.survey.proofs.Laws.Step.{carry_turned, next_turned}
use Rattle.survey.proofs.Laws.Checks.{refusal_turned}

module _ (l : Lent) (fit : misfits l ≡ false) where
  abbrev n : ℕ
  n = cells_of l

  lengths : Fitted (length l.now) l.room (length l.bed) n
  lengths = both.lengths l fit

  -- the call as it stands, and the turned one
  abbrev surveys : Surveys
  surveys = both.surveys l fit

  -- which has as many cells, and whose state is turned
  cells : cells_of (turned_call l) ≡ n
  cells = both.cells l fit

  abbrev turned_state : State
  turned_state = cell_in n (turned_table n l.now)

  state_turned : Turned surveys (state_of l) turned_state
  unfolding turned_table
  state_turned i j o = let is : n - suc i ≡ j = omega arith in
      cell_in_table n (λ k. turned_cell (state_of l (n - suc k))) i (omega arith) ∙ ap (λ (k : ℕ). turned_cell (state_of l k)) is

  -- so that what is worked of its reach and state is worked of the other survey
  as_other : {A : Type 0} (f : ℕ → Reach → State → A)
      → f (cells_of (turned_call l)) (reach_of (turned_call l)) (state_of (turned_call l)) ≡ f n (other_reach surveys) turned_state
  as_other f = λ m. f (cells m) (record { n = cells m; dx = pos l.dx; bed = surveys.bed; face = face })
      (cell_in (cells m) (turned_table n l.now))

  pub number_turned : number (turned_call l) ≡ number l
  number_turned =
      later_number (turned_call l) (both.fits_too l fit ∙ fit) ∙ as_other (λ k r s. refusal r (call_of (turned_call l)) s)
      ∙ refusal_turned surveys lawful lengths.some (state_of l) turned_state state_turned ∙ sym (later_number l fit)

  module _ (ok : number l ≡ 0) where
    went : Accepted (reach_of l) (call_of l) (state_of l)
    went = accepted (reach_of l) (call_of l) (state_of l) (unrefused l ok)

    crossed_turned : (i j : ℕ) → i + j ≡ n → crossed (turned_call l) i ≡ neg_ℤ (crossed l j)
    unfolding crossed
    crossed_turned i j o = as_other (λ k r s. carry r (call_of (turned_call l)) s i)
        ∙ carry_turned surveys lawful (state_of l) turned_state state_turned went.early lengths.some i j o

    pub filled_turned : filled (turned_call l) ≡ turned_table n (filled l)
    unfolding filled turned_table
    filled_turned = let c = call_of (turned_call l) in let y = next (reach_of l) (call_of l) (state_of l) in
        as_other (λ k r s. table_of k (next r c s))
        ∙ table_same n (next (other_reach surveys) c turned_state) (λ i. turned_cell (cell_in n (table_of n y) (n - suc i)))
        (λ i b. let j = n - suc i in
        next_turned surveys lawful (state_of l) turned_state state_turned went.early went.brief i j (omega arith)
        ∙ ap turned_cell (sym (cell_in_table n y j (omega arith))))

    pub left_volume : crossed (turned_call l) 0 ≡ neg_ℤ (crossed l n)
    left_volume = crossed_turned 0 n (omega arith)

    pub right_volume : crossed (turned_call l) (cells_of (turned_call l)) ≡ neg_ℤ (crossed l 0)
    right_volume = ap (crossed (turned_call l)) cells ∙ crossed_turned n 0 (omega arith)
