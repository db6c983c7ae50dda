-- What each request changed, said of the calls: how the answer in force is had from the one before, and where the two are one.
-- What a rule said before stands in crate before. A call is answered as before when it has the same number, or the same table and volumes.
-- Assumes nothing.
use Rattle.std.specs.Prelude.{◌≡◌, true, false, List, ℕ, ◌*◌, ◌<◌, length, ℤ, ◌<ℤ◌}
use Rattle.std.proofs.Common.{sym, ◌∙◌, ap}
use Rattle.std.proofs.Math.Path.{subst}
use Rattle.tables.specs.Cells.{table_of, cell_in}
use Rattle.tables.proofs.Cells.{cell_in_table}
use Rattle.rules.specs.Reach.{Reach, Call, State, under, z0, z1, h0, h1, hl, hr}
use Rattle.rules.specs.Finishing.{spared, cut, dried, finish}
use Rattle.rules.proofs.Laws.Limiter.{spared_finish}
use Rattle.before.specs.E2 as before-E2
use Rattle.before.proofs.Laws.E2.{unspared_finish, deep_finish}
use Rattle.before.specs.E3 as before-E3
use Rattle.before.proofs.Laws.E3.{given_four}
use Rattle.before.specs.E4 as before-E4
use Rattle.before.specs.E4.{with_no_inflow}
use Rattle.before.proofs.Laws.E4.{no_inflow}
use Rattle.before.specs.E6 as before-E6
use Rattle.before.proofs.Laws.E6 as laws-E6
use Rattle.before.proofs.Laws.E6.{none_short_one, none_short_two, uncorrected}
use Rattle.before.specs.E13 as before-E13
use Rattle.before.specs.E13.{unplaced}
use Rattle.before.proofs.Laws.E13.{without_place}
use Rattle.before.specs.E7 as before-E7
use Rattle.before.specs.E7.{ColumnsOfOne, lent_in_columns, lent_in_cells, given_in_columns}
use Rattle.before.proofs.Laws.E7.{of_one, in_columns, from_cells}
use Rattle.rules.specs.Step.{rubbed}
use Rattle.rules.specs.Refusals.{Clear}
use Rattle.rules.specs.Lent.{Lent, cells_of, reach_of, call_of, step_of}
use Rattle.promises.specs.Seen.{mean_bed, bed_slope, mean_depth, left_depth, right_depth}
use Rattle.promises.specs.SeenBefore.{friction_table, corrected_stage_table, NoShortfall}
use Rattle.promises.specs.Outcomes.{reach_at}

-- ---- what E13 changed: a refusal has a place
-- without it every call is answered as before: the same number, or the same table and volumes. What follows of other requests is said of
-- the answer without it too, since a refusal had no place then
pub number_as_before : (l : Lent) → unplaced (step_of l) ≡ before-E13.step_of l
number_as_before l = without_place l

-- ---- what E7 changed: a state is lent in four columns, where its cells stood one after another
-- a call that is lent the columns of a table of cells is answered as before: the same number, or the columns of the same table, and the
-- same volumes;
pub columns_as_before : (l : Lent) → unplaced (step_of (lent_in_columns l)) ≡ given_in_columns (cells_of l) (before-E7.step_of l)
columns_as_before l = number_as_before (lent_in_columns l) ∙ in_columns l

-- and this is every call: a table of 4n numbers is the columns of one table of cells, and of no other (one of another length is lent as it
-- is in both, and refused)
pub columns_of_one : (n : ℕ) (t : List ℤ) → length t ≡ 4 * n → ColumnsOfOne n t
columns_of_one n t e = of_one n t e

pub every_call_as_before : (l : Lent) → unplaced (step_of l) ≡ given_in_columns (cells_of l) (before-E7.step_of (lent_in_cells l))
every_call_as_before l = number_as_before l ∙ from_cells l

-- ---- what E2 changed in the rules' finishing, which ends both stages
-- a spared cell leaves it with the slopes it came with, but for the cut and the drying;
pub spared_kept : (r : Reach) (c : Call) (s : State) (i : ℕ) → spared c.dry r s i ≡ true
    → finish r c s i ≡ dried c.dry (under r i) (cut (under r i) (s i))
spared_kept r c s i e = spared_finish r c s i e

-- any other leaves it as before, and so do all cells where no mean depth of the unfinished state is at most the dry depth
pub unspared_as_before : (r : Reach) (c : Call) (s : State) (i : ℕ) → spared c.dry r s i ≡ false
    → finish r c s i ≡ before-E2.finish r c s i
unspared_as_before r c s i e = unspared_finish r c s i e

pub deep_as_before : (r : Reach) (c : Call) (s : State) → ((i : ℕ) → i < r.n → c.dry <ℤ h0 (under r i) (s i))
    → (i : ℕ) → i < r.n → finish r c s i ≡ before-E2.finish r c s i
deep_as_before r c s d i l = deep_finish r c s d i l

-- ---- what E3 changed: the dry depth is each call's own
-- given 4, and no inflow, a call is answered as before, when it gave neither: the same number, or the same table, in columns, and the same
-- volumes
pub four_as_before : (l : before-E3.Lent) → (l.left ≡ 2 → ⊥) → (l.right ≡ 2 → ⊥) → let m = with_no_inflow (before-E3.given 4 l) in
    unplaced (step_of (lent_in_columns m)) ≡ given_in_columns (cells_of m) (before-E3.step_of l)
four_as_before l f g = let m = with_no_inflow (before-E3.given 4 l) in
    columns_as_before m ∙ ap (given_in_columns (cells_of m)) (given_four l f g)

-- ---- what E4 changed: an end may be an inflow, which brings in a given discharge Q
-- where neither is one, a call is answered as before, when an end had a kind alone: the same number, or the same table, in columns, and
-- volumes
pub no_inflow_as_before : (l : before-E4.Lent) → (l.left ≡ 2 → ⊥) → (l.right ≡ 2 → ⊥) → let m = with_no_inflow l in
    unplaced (step_of (lent_in_columns m)) ≡ given_in_columns (cells_of m) (before-E4.step_of l)
no_inflow_as_before l f g = let m = with_no_inflow l in columns_as_before m ∙ ap (given_in_columns (cells_of m)) (no_inflow l f g)

-- ---- what E6 took out: where a level at a face fell short of the bed, the shortfall was taken from both
-- a table that is a state shows what it does
module _ (bed : List ℤ) (n dx : ℕ) (s : State) where
  abbrev table : List ℤ
  table = table_of n s

  none_short_table : ((i : ℕ) → i < n → laws-E6.NoShortfall (under (reach_at bed n dx) i) (s i)) → NoShortfall bed table n
  unfolding left_depth right_depth mean_depth mean_bed bed_slope h0 h1 hl hr z0 z1
  none_short_table f =
      let at : (i : ℕ) (l : i < n) → laws-E6.NoShortfall (under (reach_at bed n dx) i) (cell_in n table i) = λ i l.
      subst (laws-E6.NoShortfall (under (reach_at bed n dx) i)) (sym (cell_in_table n s i l)) (f i l) in
      record { left = λ i l. (at i l).left; right = λ i l. (at i l).right }

-- no level does: not in the state after friction, where a call passes checks 1 to 5, nor in the finished stage one, where it passes its 8;
pub no_shortfall_one : (l : Lent) → Clear (before-E6.checks_to_five l) → NoShortfall l.bed (friction_table l) (cells_of l)
unfolding friction_table
no_shortfall_one l q =
    none_short_table l.bed (cells_of l) l.dx (rubbed (reach_of l) (call_of l) (before-E7.state_of l)) (none_short_one l q)

pub no_shortfall_two : (l : Lent) → Clear (before-E6.checks_of_one l) → NoShortfall l.bed (corrected_stage_table l) (cells_of l)
unfolding corrected_stage_table
no_shortfall_two l q = none_short_table l.bed (cells_of l) l.dx (before-E6.stage_one l) (none_short_two l q)

-- so every call, whatever it is lent, is answered as it was with the correction: the same number, or the same table, in columns, and
-- volumes
pub uncorrected_as_before : (l : Lent) → unplaced (step_of (lent_in_columns l)) ≡ given_in_columns (cells_of l) (before-E6.step_of l)
uncorrected_as_before l = columns_as_before l ∙ ap (given_in_columns (cells_of l)) (uncorrected l)
