-- The stage from a lent state that is in range: what it answers by the check that stopped it, and that its faces and its cells are the
-- rule's.
-- Assumes nothing.
use Rattle.std.specs.Prelude.{◌≡◌, refl, false, List, [], ℕ, suc, ◌≤◌, ◌<◌, get_or, ℤ, Option, None, Some, unwrap_or, Result, Err}
use Rattle.std.proofs.Common.{sym, ◌∙◌, subst, arith}
use Rattle.std.proofs.Math.Path.{ap}
use Rattle.std.proofs.Math.IntN.{pos}
use Rattle.whole.specs.Parts.{le_trans}
use Rattle.whole.specs.Choice.{within_past}
use Rattle.tables.specs.Some.{some}
use Rattle.tables.proofs.Some.{some_none, some_same, lowest_same}
use Rattle.tables.specs.Rows.{Written}
use Rattle.tables.proofs.Filling.{all_filled}
use Rattle.tables.specs.Pools.{as_row, pool_in}
use Rattle.rules.specs.Refusals.{is_long, Check}
use Rattle.rules.specs.Found.{at, found, none}
use Rattle.rules.proofs.Laws.Verdicts.{stops_at, none_stops}
use Rattle.reach.specs.declared.answer.Refused.{Refused}
use Rattle.reach.specs.declared.answer.Refusal.TheVariants.{Stage}
use Rattle.reach.specs.Refusals.{number_of, refused_at}
use Rattle.reach.specs.Told.{found_in}
use Rattle.reach.specs.Laws.Refusals.{refused_some}
use Rattle.reach.specs.Places.{FillStops, found_says, none_says}
use Rattle.sill_rules.specs.Reach as rules
use Rattle.sill_rules.specs.Reach.{State, over, crest_left, crest_right}
use Rattle.sill_rules.specs.Step.{rubbed, face_at, next}
use Rattle.sill_rules.specs.Refusals.{off_pool, off, fast_friction, fast_face, too_long}
use Rattle.sill_rules.proofs.Laws.Positive.{Fine, Wet, over≥0, left_shown, right_shown}
use Rattle.sill_rules.proofs.Laws.Speeds.{slow_cells, slow_faces}
use Rattle.sill.specs.declared.rows.Call.{Call}
use Rattle.sill.specs.declared.rows.Row as cells
use Rattle.sill.specs.declared.rows.FaceRow.{FaceRow}
use Rattle.sill.specs.Told.{reach_in, call_in}
use Rattle.sill.specs.Rows.{no_face, face_row, cross_in, long_at, face_row_at, end_at}
use Rattle.sill.specs.Ranges.{Numbers, Inside, Ranged, Row, Rows, FaceRows}
use Rattle.sill.specs.Says.{stage_checks, RubSays, StageDone, StageSays}
use Rattle.sill.specs.Laws.PoolSizes.{pool_sizes, pool_fits, rubbed_inside}
use Rattle.sill.specs.Laws.FaceSizes.{face_rows}
use Rattle.sill.specs.Laws.RowsAreRules.{cross_is, end_is}

-- ---- what a stage answers that a check stopped,
pub stopped_says : {r : rules.Reach} {c : rules.Call} {s : State} {x : Result (Unit {0}) Refused} (e : Refused) → x ≡ Err e
    → at (number_of e.refusal) e.place ≡ found (stage_checks r c s) → (f : List FaceRow) (a : List (List ℤ))
    → StageSays r c s (found_in x) f a
stopped_says e is told f a = record {
  found = ap found_in is ∙ told;
  done = λ z. absurd (omega (arith, ap (λ (y : Result (Unit {0}) Refused). (found_in y).no) is, z, refused_some e.refusal));
}

-- or one whose last check ends it, where its search has found q
pub ended_says : {r : rules.Reach} {c : rules.Call} {s : State} {f : List FaceRow} {a : List (List ℤ)} (q : Option ℕ)
    → ((i : ℕ) → q ≡ Some i → at 8 i ≡ found (stage_checks r c s)) → (q ≡ None → none ≡ found (stage_checks r c s))
    → (q ≡ None → StageDone r c s f a) → StageSays r c s (found_in (refused_at Stage q)) f a
ended_says None stops ends done = record { found = ends refl; done = λ z. done refl }
ended_says (Some i) stops ends done = record { found = stops i refl; done = λ z. absurd (omega (arith, z)) }

module _ (call : Call) (num : Numbers call) (bed : List ℤ) (friction : List ℕ) (state : List ℤ) (lent : Ranged bed call.n state) where
  abbrev n : ℕ
  n = call.n

  abbrev r : rules.Reach
  r = reach_in call bed

  abbrev c : rules.Call
  c = call_in call (λ i. pos (get_or friction i 0))

  abbrev s : State
  s = pool_in n state

  abbrev checks : List Check
  checks = stage_checks r c s

  fine : Fine r c
  fine = record { dx = num.dx_pos; dt = num.dt_pos; dry = num.dry.least }

  -- a cell after friction is in range
  slid : (i : ℕ) → i < n → Inside (get_or bed i (pos 0)) (rubbed r c s i)
  unfolding rubbed
  slid i l =
      rubbed_inside call.dt call.dry (pos (get_or friction i 0)) (get_or bed i (pos 0)) (s i) num.dt_pos num.dry.least (lent i l)

  -- ---- friction has answered k, with the rows of the cells in b
  module _ {k : Option ℕ} {b : List cells.Row} (rub : RubSays r c s k b) where
    pub fast_stops : (i : ℕ) → k ≡ Some i → at 6 i ≡ found checks
    fast_stops i e = let fast = found_says _ n i (sym rub.stops ∙ e) in stops_at checks 0 i tt fast.1 fast.2

    module _ (m : k ≡ None) where
      slow : some (fast_friction r c s) n ≡ false
      slow = none_says _ n (sym rub.stops ∙ m)

      pub slow_sides : some (fast_face r c (rubbed r c s)) (suc n) ≡ false
      slow_sides = slow_faces r c fine s slow num.some

      -- the rows have the sizes that a face asks
      pub rows_in : Rows b n
      rows_in i l =
          let k = pool_sizes (slid i l) in let wet : Wet r (rubbed r c s) = λ j h. (pool_sizes (slid j h)).least in
          let speed = within_past 131072 _ (slow_cells r c fine s slow i l) in
          subst Row (sym (rub.rows m i l)) (record {
            e = k.level;
            q = k.flow;
            left = record {
              least = over≥0 (crest_left r i) (rubbed r c s i);
              most = le_trans (left_shown r (rubbed r c s) wet i l) k.most;
              speed = speed;
            };
            right = record {
              least = over≥0 (crest_right r i) (rubbed r c s i);
              most = le_trans (right_shown r (rubbed r c s) wet i l) k.most;
              speed = speed;
            };
          })

      face_is : (i : ℕ) → i < suc n → cross_in call b i ≡ face_at r c (rubbed r c s) i
      face_is = cross_is call bed (λ i. pos (get_or friction i 0)) (rubbed r c s) num.some b (rub.rows m)

      -- ---- the faces have answered j, with their rows in f
      module _ {j : Option ℕ} {f : List FaceRow} (faces : FillStops no_face (suc n) (long_at call b) (face_row_at call b) j f) where
        long_is : (i : ℕ) → i < suc n → long_at call b i ≡ too_long r c (rubbed r c s) i
        unfolding too_long
        long_is i l = ap (is_long call.dx call.dt) (face_is i l)

        pub long_stops : (i : ℕ) → j ≡ Some i → at 7 i ≡ found checks
        long_stops i e =
            let long = found_says _ (suc n) i (sym faces.stops ∙ e) in
            stops_at checks 2 i (slow, (slow_sides, tt)) (long.1 ∙ lowest_same _ (too_long r c (rubbed r c s)) (suc n) long_is) long.2

        module _ (o : j ≡ None) where
          brief : some (too_long r c (rubbed r c s)) (suc n) ≡ false
          brief = sym (some_same _ (too_long r c (rubbed r c s)) (suc n) long_is) ∙ none_says _ (suc n) (sym faces.stops ∙ o)

          written : Written no_face f (suc n) (face_row_at call b)
          written =
              let all : suc n ≤ unwrap_or j (suc n) = rw o (omega arith) in
              all_filled no_face (suc n) (long_at call b) (face_row_at call b) faces.fills all

          pub faces_in : FaceRows f n
          faces_in = face_rows call b num rows_in f written

          next_is : (i : ℕ) → i < n → end_at call bed b f i ≡ next r c s i
          unfolding next
          next_is = end_is call bed (λ i. pos (get_or friction i 0)) (rubbed r c s) num.some b (rub.rows m) f written

          -- ---- the update has answered p, with the cells in a
          module _ {p : Option ℕ} {a : List (List ℤ)}
              (end : FillStops [] n (λ i. off_pool (get_or bed i (pos 0)) (end_at call bed b f i))
              (λ i. as_row (end_at call bed b f i)) p a) where
            off_is : (i : ℕ) → i < n → off_pool (get_or bed i (pos 0)) (end_at call bed b f i) ≡ off r (next r c s) i
            unfolding off
            off_is i l = ap (off_pool (get_or bed i (pos 0))) (next_is i l)

            pub off_stops : (i : ℕ) → p ≡ Some i → at 8 i ≡ found checks
            off_stops i e =
                let out = found_says _ n i (sym end.stops ∙ e) in
                stops_at checks 3 i (slow, (slow_sides, (brief, tt))) (out.1 ∙ lowest_same _ (off r (next r c s)) n off_is) out.2

            module _ (q : p ≡ None) where
              in_range : some (off r (next r c s)) n ≡ false
              in_range = sym (some_same _ (off r (next r c s)) n off_is) ∙ none_says _ n (sym end.stops ∙ q)

              ended : Written [] a n (λ i. as_row (end_at call bed b f i))
              ended = let all : n ≤ unwrap_or p n = rw q (omega arith) in all_filled [] n _ _ end.fills all

              pub none_found : none ≡ found checks
              none_found = none_stops checks (slow, (slow_sides, (brief, (in_range, tt))))

              pub stage_done : StageDone r c s f a
              unfolding off
              stage_done = record {
                faces = λ i l. written i l ∙ ap (face_row call.dx call.dt) (face_is i l);
                pools = λ i l. ended i l ∙ ap as_row (next_is i l);
                fits = λ i l. pool_fits (record { grounded = (lent i l).grounded; range = some_none (off r (next r c s)) n in_range i l });
              }
