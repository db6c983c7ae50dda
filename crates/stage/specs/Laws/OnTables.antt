-- The step on tables: the lent state is loaded, checked and rubbed, and both stages follow.
-- Assumes nothing.
use Rattle.std.specs.Prelude.{false, ◌≡◌, List, [], ◌++◌, ℕ, suc, ◌<◌, get_or, ℤ, pos, ◌≤ℤ◌, Result, Ok, Err}
use Rattle.std.proofs.Common.{sym, ◌∙◌, arith}
use Rattle.std.proofs.Math.Path.{ap, subst}
use Rattle.whole.specs.Parts.{b_up}
use Rattle.tables.specs.Some.{some}
use Rattle.tables.proofs.Some.{some_none}
use Rattle.tables.specs.Rows.{Filled}
use Rattle.tables.specs.Cells.{as_cell, as_list, cell_in, table_of, seen, Holds}
use Rattle.tables.proofs.Cells.{table_same}
use Rattle.rules.specs.Limits.{least_dry}
use Rattle.rules.specs.Reach.{Reach, Call, State, bed_at}
use Rattle.rules.specs.Step.{rubbed_cell, rubbed, next}
use Rattle.rules.specs.Refusals.{Check, off, stage_checks, Clear}
use Rattle.rules.specs.Found.{Found, at, found}
use Rattle.rules.proofs.Laws.Verdicts.{stopped, clear_found, clear_at, went_on}
use Rattle.rules.proofs.Laws.Alike.{same_found}
use Rattle.reach.specs.declared.Reach.{Reach as ToldReach}
use Rattle.reach.specs.declared.Call.{Call as ToldCall}
use Rattle.reach.specs.declared.answer.Refused.{Refused}
use Rattle.reach.specs.Told.{reach_in, call_on, found_in}
use Rattle.reach.specs.Refusals.{number_of}
use Rattle.reach.specs.Laws.Refusals.{refused_some, not_none}
use Rattle.stage.specs.declared.rows.FaceRow.{FaceRow}
use Rattle.stage.specs.Rows.{volume_at, rubbed_at}
use Rattle.stage.specs.Ranges.{Inside, Ranged, Slows}
use Rattle.stage.specs.Says.{ready_checks, both_checks, LoadSays, Shows, StepSays, BothSay}
use Rattle.stage.specs.Stored.{Fits, AllFit}
use Rattle.stage.specs.Worked.{Volume, TablesSay}
use Rattle.stage.specs.Laws.CellSizes.{cell_sizes, volume_size}
use Rattle.stage.specs.Laws.FrictionRange.{rubbed_inside}
use Rattle.stage.specs.Laws.LentChecks.{lent_ranged, lent_slow, ready_same}
use Rattle.stage.specs.Laws.TwoStages.{volume_is}

-- where the end state's range stands among the checks of both stages
abbrev end : ℕ
end = 7

-- what checks say, of which none or the first that applies is told
abbrev pub Checked : Type 0
Checked = Result (Unit {0}) Refused

-- the state lent for a step, as the table a has it, and what the checks before the stages said, k
pub record Loaded (reach : ToldReach) (call : ToldCall) (bed : List ℤ) (friction : List ℕ) (state : List ℤ) (a : List (List ℤ))
    (k : Checked) : Type 0 where
  pub cells : Holds a reach.n (cell_in reach.n state)
  pub found : found_in k ≡ found (ready_checks call.dry reach.n bed friction (seen a))

pub loaded : (reach : ToldReach) (call : ToldCall) {bed : List ℤ} {friction : List ℕ} {state : List ℤ} {old a : List (List ℤ)} {k : Checked}
    → LoadSays reach.n state old a → found_in k ≡ found (ready_checks call.dry reach.n bed friction (seen a))
    → Loaded reach call bed friction state a k
loaded reach call load ready = record { cells = load.cells.below; found = ready }

module _
    {reach : ToldReach} {call : ToldCall} {bed : List ℤ} {friction : List ℕ} {state : List ℤ} {a : List (List ℤ)} {k : Checked}
    (lent : Loaded reach call bed friction state a k) where
  abbrev n : ℕ
  n = reach.n

  abbrev r : Reach
  r = reach_in reach bed

  abbrev rough : ℕ → ℤ
  rough i = pos (get_or friction i 0)

  abbrev c : Call
  c = call_on call rough

  abbrev s : State
  s = cell_in n state

  abbrev ready : List Check
  ready = ready_checks call.dry n bed friction s

  found_ready : found_in k ≡ found ready
  found_ready = lent.found ∙ same_found (ready_same call.dry n bed friction (seen a) s (λ i l. ap as_cell (lent.cells i l)))

  pub ready_stops : (e : Refused) → k ≡ Err e → (old : List ℤ) → TablesSay reach call bed friction state (Err e) old old
  ready_stops e is old = let some = refused_some e.refusal in record {
    found = stopped ready (both_checks r c s) (at (number_of e.refusal) e.place) (ap found_in (sym is) ∙ found_ready) (not_none e.refusal);
    some = some;
    kept = λ i. old;
  }

  module _ (z : (found_in k).no ≡ 0) where
    passed : Clear (ready_checks call.dry n bed friction (seen a))
    passed = clear_found (ready_checks call.dry n bed friction (seen a)) tt lent.found z

    pub loaded_ranged : Ranged bed n (seen a)
    loaded_ranged = lent_ranged call.dry n bed friction (seen a) passed

    pub loaded_slow : Slows call.dry friction bed n (seen a)
    loaded_slow = lent_slow call.dry n bed friction (seen a) passed

    -- t has it after friction
    module _ {t : List (List ℤ)} (f : Filled [] a t n (λ i. as_list (rubbed_at call friction bed (seen a) i))) where
      rubbed_shown : Shows r t (rubbed r c s)
      unfolding rubbed
      rubbed_shown i l =
          ap as_cell (f.below i l) ∙ (λ j. rubbed_cell call.dt call.dry (rough i) (bed_at bed i) (as_cell (lent.cells i l j)))

      -- what both stages from it say, of the lent state
      pub both_said : {m : Found} {f x : List FaceRow} {b : List (List ℤ)} → BothSay reach call bed t m f x b → StepSays r c s m f x b
      both_said both = both rough s rubbed_shown

      pub rubbed_ranged : pos 0 ≤ℤ call.dt → least_dry ≤ℤ call.dry → Ranged bed n (seen t)
      rubbed_ranged p m i l = subst (λ (m : List ℤ). Inside (bed_at bed i) (as_cell m)) (sym (f.below i l))
          (rubbed_inside call.dt call.dry (rough i) (bed_at bed i) (seen a i) p m (loaded_ranged i l))

    -- ---- both stages have answered m
    module _ (o : 0 < n) {m : Found} {f x : List FaceRow} {b : List (List ℤ)} (both : StepSays r c s m f x b) where
      found_both : m ≡ found (ready ++ both_checks r c s)
      found_both = both.found ∙ went_on ready (both_checks r c s) tt found_ready z

      pub both_stops : (e : Refused) → m ≡ at (number_of e.refusal) e.place → (old : List ℤ)
          → TablesSay reach call bed friction state (Err e) old old
      both_stops e is old = record { found = sym is ∙ found_both; some = refused_some e.refusal; kept = λ i. old }

      module _ (y : m.no ≡ 0) where
        volume_in : (i : ℕ) → i < suc n → Volume (volume_at f x i)
        volume_in i l = let d = both.done y in volume_size (d.one.sized i l).vol (d.two.sized i l).vol

        in_range : some (off r (next r c s)) n ≡ false
        unfolding stage_checks
        in_range = let checks = both_checks r c s in clear_at checks (clear_found checks tt both.found y) end

        shown : (i : ℕ) → i < n → seen b i ≡ next r c s i
        shown i l = ap as_cell ((both.done y).cells i l)

        -- the end state fits the lent table
        pub both_fits : AllFit n (seen b)
        unfolding off
        both_fits i l =
            let k = cell_sizes (record { grounded = (loaded_ranged i l).grounded; range = some_none (off r (next r c s)) n in_range i l }) in
            subst Fits (sym (shown i l)) (record { e0 = k.e0; e1 = b_up 1310720 k.e1 tt; q0 = k.q0; q1 = k.q1 })

        pub both_done : (old : List ℤ) {new : List ℤ} {w v : ℤ} → new ≡ table_of n (seen b) → w ≡ volume_at f x 0 → v ≡ volume_at f x n
            → TablesSay reach call bed friction state (Ok (record { first = w; last = v })) old new
        both_done old e p q = let d = both.done y in record {
          none = ap (λ (k : Found). k.no) (sym found_both) ∙ y;
          left = p ∙ volume_is d 0 (omega arith);
          right = q ∙ volume_is d n (omega arith);
          cells = e ∙ table_same n (seen b) (next r c s) shown;
          left_in = subst Volume (sym p) (volume_in 0 (omega arith));
          right_in = subst Volume (sym q) (volume_in n (omega arith));
        }
