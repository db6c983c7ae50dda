-- The end of a stage: its finished cells, and their range, which can be checked because they are not too wide.
-- Assumes nothing.
use Rattle.std.specs.Prelude.{◌≡◌, ℕ, ◌<◌, ℤ, Option, None, Some, Result, IsOk}
use Rattle.std.proofs.Common.{sym, ◌∙◌}
use Rattle.std.proofs.Math.Path.{ap, subst}
use mathlib.Core.List.{List}
use Rattle.tables.proofs.Some.{some_none, some_same, lowest_same}
use Rattle.tables.specs.Cells.{as_cell, seen, Holds}
use Rattle.rules.specs.Reach.{Reach, Call, State, bed_at}
use Rattle.rules.specs.Finishing.{finish}
use Rattle.rules.specs.Refusals.{off_cell, off}
use Rattle.rules.specs.Found.{Found}
use Rattle.rules.specs.Found as rules
use Rattle.rules.proofs.Laws.Verdicts.{clear_found, clear_at, stops_at, none_stops}
use Rattle.reach.specs.declared.Reach.{Reach as ToldReach}
use Rattle.reach.specs.declared.Call.{Call as ToldCall}
use Rattle.reach.specs.declared.answer.Refusal.TheVariants.{Stage}
use Rattle.reach.specs.Refusals.{refused_at}
use Rattle.reach.specs.Places.{first_place, found_says, none_says}
use Rattle.reach.specs.Told.{reach_in, call_on, found_in}
use Rattle.reach.specs.Ranges.{Grounds, Wide, AllUnfinished}
use Rattle.finishing.specs.declared.unfit.Unfit.{Unfit}
use Rattle.finishing.specs.FinishSays.{FinishSays}
use Rattle.stage.specs.Ranges.{Smalls, Ranged}
use Rattle.stage.specs.Says.{range_check, EndSays}
use Rattle.stage.specs.Laws.StateSizes.{small_wide, finish_wide}

-- what a stage leaves can be finished
pub unfinished : (bed : List ℤ) (n : ℕ) (s : State) → Grounds bed n → Smalls n s → AllUnfinished bed n s
unfinished bed n s g w i l = record { grounded = g i l; wide = small_wide (w i l) }

-- a table b that finishing filled from u
module _ {reach : ToldReach} {call : ToldCall} {bed : List ℤ} {u : List (List ℤ)} {done : Result (Unit {0}) Unfit} {old b : List (List ℤ)}
    (says : FinishSays reach call bed u done old b) (works : IsOk done) (ρ : ℕ → ℤ) where
  abbrev r : Reach
  r = reach_in reach bed

  abbrev c : Call
  c = call_on call ρ

  filled : Holds b reach.n (finish r c (seen u))
  filled = (says.filled works ρ).below

  -- its cells are not too wide for their range to be checked
  pub finished_wide : Grounds bed reach.n → Smalls reach.n (seen u) → AllUnfinished bed reach.n (seen b)
  unfolding finish
  finished_wide g w i l = record {
    grounded = g i l;
    wide = subst (λ (m : List ℤ). Wide (as_cell m)) (sym (filled i l)) (finish_wide r c (seen u) i (bed_at bed i) (g i l) (w i l));
  }

  -- an 8 at the lowest cell out of range, where there is one
  off_same : (i : ℕ) → i < reach.n → off_cell (bed_at bed i) (seen b i) ≡ off r (finish r c (seen u)) i
  unfolding off
  off_same i l = ap (λ (m : List ℤ). off_cell (bed_at bed i) (as_cell m)) (filled i l)

  pub end_says : (p : Option ℕ) → p ≡ first_place (λ i. off_cell (bed_at bed i) (seen b i)) reach.n
      → EndSays r c (seen u) (found_in (refused_at Stage p)) b
  end_says p e = record { found = found p e; cells = filled }
    where
      found : (p : Option ℕ) → p ≡ first_place (λ i. off_cell (bed_at bed i) (seen b i)) reach.n
          → found_in (refused_at Stage p) ≡ rules.found (range_check r (finish r c (seen u)))
      found (Some i) e =
          let at_cell = found_says _ reach.n i (sym e) in
          stops_at (range_check r (finish r c (seen u))) 0 i tt (at_cell.1 ∙ lowest_same _ (off r (finish r c (seen u))) reach.n off_same) at_cell.2
      found None e =
          none_stops (range_check r (finish r c (seen u)))
          (sym (some_same _ (off r (finish r c (seen u))) reach.n off_same) ∙ none_says _ reach.n (sym e), tt)

-- an end that passed leaves its cells in range
pub end_ranged : (reach : ToldReach) (call : ToldCall) (bed : List ℤ) (ρ : ℕ → ℤ) {v : State} {k : Found} {b : List (List ℤ)}
    → EndSays (reach_in reach bed) (call_on call ρ) v k b → k.no ≡ 0 → Grounds bed reach.n → Ranged bed reach.n (seen b)
unfolding off
end_ranged reach call bed ρ {v} says z g i l =
    let r = reach_in reach bed in let t = finish r (call_on call ρ) v in let check = range_check r t in
    record {
      grounded = g i l;
      range = ap (λ (m : List ℤ). off_cell (bed_at bed i) (as_cell m)) (says.cells i l)
          ∙ some_none (off r t) reach.n (clear_at check (clear_found check tt says.found z) 0) i l;
    }
