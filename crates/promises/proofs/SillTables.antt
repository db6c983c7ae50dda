-- From what a caller sees of a reach over a stepped bed to its rules: a call by its checks, tables as states, an accepted call as a step.
-- Assumes nothing.
use Rattle.std.specs.Prelude.{◌≡◌, Bool, true, false, T, ltb, get_or, ℤ, pos, ◌+ℤ◌, ◌-ℤ◌, ◌≤ℤ◌}
use Rattle.std.proofs.Math.Path.{refl, ap, subst}
use Rattle.std.proofs.Common.{sym, ◌∙◌}
use mathlib.Core.List.{List, [], ◌∷◌, ◌++◌}
use Rattle.std.proofs.Math.Logic.{⊎_elim}
use Prim.Native.Nat.{ℕ, zero, suc, ◌≤◌, ◌<◌}
use native.Mathlib.Omega.{arith}
use Rattle.std.proofs.Math.Dec.{nltb→le}
use Rattle.std.proofs.Math.ListN.{length}
use Rattle.whole.specs.Flags.{by, failed}
use Rattle.whole.specs.Parts.{range_b}
use Rattle.whole.specs.Choice.{size_z, b_size}
use Rattle.tables.specs.Some.{some, IsLowest}
use Rattle.tables.proofs.Some.{some_same}
use Rattle.tables.specs.Pools.{Pool, pool_in, pool_table, length_pools, pool_in_table, pools_are, table_pools}
use Rattle.rules.specs.Ends.{open_kind}
use Rattle.rules.specs.Refusals.{bad_rough, Check, each, of_call, applies, verdict, Clear}
use Rattle.rules.specs.Found.{Found, at, found}
use Rattle.rules.proofs.Laws.Accept.{none_at, passed}
use Rattle.rules.proofs.Laws.Verdicts.{clear_at, of_call_lem, none_stops, went_on, went_past}
use Rattle.rules.proofs.Laws.Within.{one_only}
use Rattle.rules.proofs.Laws.Face.{lawful}
use Rattle.rules.proofs.Laws.Telescope.{sum}
use Rattle.sill_rules.specs.Reach as rules
use Rattle.sill_rules.specs.Reach.{Reach, Call, State, higher, crest_left, crest_right, over}
use Rattle.sill_rules.specs.Step.{rubbed, next, carry}
use Rattle.sill_rules.specs.Refusals.{call_tests, bad_call, bad_bed, off_pool, off, fast_friction, fast_face, too_long, early, checks, refusal}
use Rattle.sill_rules.specs.Lent.{Lent, cells_of, reach_of, call_of, state_of, misfits, all_checks, filled, crossed, step_of}
use Rattle.sill_rules.specs.AtRest.{AtRest}
use Rattle.sill_rules.proofs.Laws.Order as order
use Rattle.sill_rules.proofs.Laws.Lengths.{Fitted, fitted, first_found as misfit-found, later_found, fits, unrefused}
use Rattle.sill_rules.proofs.Laws.Positive.{Wet, wet_same}
use Rattle.sill_rules.proofs.Laws.Balance as balance
use Rattle.sill_rules.proofs.Laws.Dried.{dried_none}
use Rattle.sill_rules.proofs.Laws.Speeds.{slow_faces}
use Rattle.sill_rules.proofs.Laws.StillChecks.{input, seven_alone}
use Rattle.sill_rules.proofs.Laws.EndVolumes.{left_shut, right_shut, left_most, right_most}
use Rattle.sill_rules.proofs.Laws.Accepted.{fine, accepted as accepted-call, accepted_early, accepted_depths, accepted_rest}
use Rattle.sill_rules.proofs.Laws.Accepted.{TooLarge, Large}
use Rattle.reach.specs.Gives.{Answer, Gives}
use Rattle.promises.specs.Seen.{FirstMetAt, total, most_passed}
use Rattle.promises.specs.SeenSill.{check_five, fast_cell, discharge, depth, NoneBelow, Excess, water, left_bed, right_bed}
use Rattle.promises.specs.SeenSill.{left_depth, right_depth, Lake, lent, AcceptedCall}
use Rattle.promises.specs.First.{first_verdict, first_of, first_found, found_first, first_split, listed}
use Rattle.promises.specs.ByChecks.{ByChecks, taken}
use Rattle.promises.specs.SillTables.{reach_at, One}

-- ---- a call by its checks
module _ (l : Lent) where
  abbrev r : Reach
  r = reach_of l

  abbrev c : Call
  c = call_of l

  abbrev s : State
  s = state_of l

  abbrev n : ℕ
  n = cells_of l

  pub by_checks : {a : Answer} {old new : List ℤ} → Gives (step_of l) a old new
      → ByChecks (all_checks l) (filled l) (crossed l 0) (crossed l n) a old new
  unfolding step_of
  by_checks g = record { gave = g }

  -- their numbers, and their places
  pub all_listed : T (listed (all_checks l))
  unfolding all_checks checks early
  all_listed = tt

  pub ones_whole : T (one_only 1 (all_checks l))
  unfolding all_checks checks early
  ones_whole = tt

  pub twos_whole : T (one_only 2 (all_checks l))
  unfolding all_checks checks early
  twos_whole = tt

  -- those of what is lent, 1 to 5, and those after them
  abbrev given : List Check
  given = of_call 1 (misfits l) ∷ input r c s

  -- the longest time step, and the end state
  abbrev late : List Check
  late = each 7 (suc n) (too_long r c (rubbed r c s)) ∷ each 8 n (off r (next r c s)) ∷ []

  abbrev worked : List Check
  worked = each 6 n (fast_friction r c s) ∷ each 6 (suc n) (fast_face r c (rubbed r c s)) ∷ late

  two_parts : all_checks l ≡ given ++ worked
  unfolding all_checks checks early
  two_parts = refl

  -- where the lengths fit, there are cells, and the number is that of the checks of the reach
  fit_of : applies (of_call 1 (misfits l)) ≡ false → misfits l ≡ false
  fit_of e = sym (of_call_lem 1 (misfits l)) ∙ e

  some_cells : misfits l ≡ false → 0 < n
  some_cells fit = (fitted (length l.now) l.room (length l.bed) n fit).some

  later_number : misfits l ≡ false → refusal r c s ≡ verdict (all_checks l)
  unfolding refusal
  later_number fit = ap (λ (f : Found). f.no) (later_found l fit)

  -- as it is where it is 8
  pub eight_later : verdict (all_checks l) ≡ 8 → refusal r c s ≡ 8
  eight_later e = by (misfits l)
      (λ b. let z = ap (λ (f : Found). f.no) (misfit-found l b) in let w : ⊥ = omega arith in absurd w)
      (λ b. later_number b ∙ e)

  -- a 5 is given by check 5 alone
  pub five_applies : verdict (all_checks l) ≡ 5 → applies (check_five l) ≡ true
  unfolding all_checks checks early verdict
  five_applies e =
      let four = of_call 1 (misfits l) ∷ of_call 2 (bad_call r c) ∷ each 3 n (λ i. bad_bed (r.bed i))
      ∷ each 4 n (λ i. bad_rough (c.rough i)) ∷ [] in
      let five = (passed 5 four (check_five l ∷ worked) tt e).1 in
      by (applies (check_five l)) (λ b. b)
      (λ b. let z = (passed 5 worked [] tt (rw b at five)).1 in let w : ⊥ = omega arith in absurd w)

  -- a 6 is given by a cell's friction speed alone
  pub six_cell : (p : ℕ) → FirstMetAt 6 p (all_checks l) → IsLowest (fast_cell l) n p
  unfolding verdict
  six_cell p f = ⊎_elim (λ h. h.0) (λ h. absurd (no_face h.0 h.1)) (first_split (found_first 6 p worked (omega arith) is))
    where
      clear : Clear given
      clear = (passed 6 given worked tt (ap verdict (sym two_parts) ∙ first_verdict 6 (first_of 6 p f))).0

      is : found worked ≡ at 6 p
      is = went_on given worked tt (none_stops given clear) refl ∙ ap found (sym two_parts) ∙ first_found 6 p f

      no_face : some (fast_friction r c s) n ≡ false → FirstMetAt 6 p (each 6 (suc n) (fast_face r c (rubbed r c s)) ∷ late) → ⊥
      no_face slow rest =
          let fit = fit_of clear.0 in
          let ok = fine r c (sym (of_call_lem 2 (bad_call r c)) ∙ clear_at (input r c s) clear.1 order.call) in
          let none = slow_faces r c ok s slow (some_cells fit) in
          let z = (passed 6 late [] tt (rw none at (first_verdict 6 (first_of 6 p rest)))).1 in let w : ⊥ = omega arith in w

  -- a lake at rest: a number over 5 is a 7
  pub lake_number : AtRest r s → 5 < verdict (all_checks l) → verdict (all_checks l) ≡ 7
  lake_number lake over =
      let clear = (went_past 5 given worked tt (subst (λ (xs : List Check). 5 < verdict xs) two_parts over)).0 in
      let fit = fit_of clear.0 in let is = sym (later_number fit) in
      ⊎_elim (λ e. let z = is ∙ e in let w : ⊥ = omega arith in absurd w) (λ e. is ∙ e)
      (seven_alone r lawful (some_cells fit) c s lake clear.1)

-- ---- tables as states
module _ (bed t : List ℤ) (n dx : ℕ) where
  none_below : Wet (reach_at bed n dx) (pool_in n t) → NoneBelow bed t n
  unfolding depth rules.depth
  none_below w = w

  water_is : water bed t n ≡ balance.water (reach_at bed n dx) (pool_in n t)
  unfolding balance.water water total sum depth rules.depth
  water_is = go n
    where
      go : (m : ℕ) → total (depth bed t n) m ≡ sum (λ i. rules.depth (get_or bed i (pos 0)) (pool_in n t i)) m
      go zero = refl
      go (suc m) = ap (λ (x : ℤ). x +ℤ depth bed t n m) (go m)

  pub at_rest : Lake bed t n → AtRest (reach_at bed n dx) (pool_in n t)
  unfolding left_depth right_depth left_bed right_bed crest_left crest_right higher over
  at_rest k = record { calm = k.calm; meet = k.meet }

-- ---- states written as tables
module _ (bed : List ℤ) (n dx : ℕ) (s : State) where
  abbrev table : List ℤ
  table = pool_table n s

  pub none_below_table : Wet (reach_at bed n dx) s → NoneBelow bed table n
  none_below_table w = none_below bed table n dx (wet_same (reach_at bed n dx) s (pool_in n table) (pool_in_table n s) w)

  pub excess_table : (k : Large (reach_at bed n dx) s) → Excess bed table n
  unfolding depth rules.depth
  excess_table k = record {
    cell = k.cell;
    below = k.below;
    large = subst (TooLarge (get_or bed k.cell (pos 0))) (sym (pool_in_table n s k.cell k.below)) k.large;
  }

-- ---- an accepted call
module _ (l : Lent) (ok : verdict (all_checks l) ≡ 0) where
  abbrev there : Reach
  there = reach_of l

  abbrev did : Call
  did = call_of l

  abbrev was : State
  was = state_of l

  lengths : Fitted (length l.now) l.room (length l.bed) (cells_of l)
  lengths = fitted (length l.now) l.room (length l.bed) (cells_of l) (fits l ok)

  -- the kinds of its ends
  pub kinds_in : (l.left ≤ open_kind) × (l.right ≤ open_kind)
  unfolding early bad_call
  kinds_in =
      let clear = clear_at (early there did was) (accepted_early there did was (unrefused l ok)) order.call in
      let fails = none_at (call_tests there did) (sym (of_call_lem 2 (bad_call there did)) ∙ clear) in (
        nltb→le open_kind l.left (failed (ltb open_kind l.left) (fails 3)),
        nltb→le open_kind l.right (failed (ltb open_kind l.right) (fails 4)),
      )

  -- what crosses them
  pub wall_left : l.left ≡ 0 → crossed l 0 ≡ pos 0
  unfolding crossed
  wall_left e = left_shut there lawful did was e

  pub wall_right : l.right ≡ 0 → crossed l (cells_of l) ≡ pos 0
  unfolding crossed
  wall_right e = right_shut there lawful did was lengths.some e

  pub passed_left : size_z (crossed l 0) ≤ℤ most_passed
  unfolding crossed
  passed_left = let v = carry there did was 0 in
      (range_b (b_size v (left_most there lawful did was lengths.some (accepted-call there did was (unrefused l ok))))).1

  pub passed_right : size_z (crossed l (cells_of l)) ≤ℤ most_passed
  unfolding crossed
  passed_right = let v = carry there did was (cells_of l) in
      (range_b (b_size v (right_most there lawful did was lengths.some (accepted-call there did was (unrefused l ok))))).1

  -- no cell that it writes is out of range
  written_in_range : some (λ i. off_pool (get_or l.bed i (pos 0)) (pool_in (cells_of l) (filled l) i)) (cells_of l) ≡ false
  unfolding off filled
  written_in_range = let n = cells_of l in let end = next there did was in
      some_same (λ i. off_pool (there.bed i) (pool_in n (pool_table n end) i)) (off there end) n
      (λ i b. ap (off_pool (there.bed i)) (pool_in_table n end i b))
      ∙ (accepted-call there did was (unrefused l ok)).end

-- a table that it wrote has no discharge in a cell no deeper than its dry depth
pub written_calm : (l : Lent) {new : List ℤ} → new ≡ filled l → (i : ℕ) → i < cells_of l
    → depth l.bed new (cells_of l) i ≤ℤ pos l.dry → discharge new (cells_of l) i ≡ pos 0
unfolding filled depth rules.depth
written_calm l {new} e i m d =
    let r = reach_of l in let c = call_of l in let s = state_of l in let n = cells_of l in
    let is : pool_in n new i ≡ next r c s i = ap (λ (t : List ℤ). pool_in n t i) e ∙ pool_in_table n (next r c s) i m in
    ap (λ (x : Pool). x.q) is
    ∙ dried_none r c s i (subst (λ (x : Pool). rules.depth (r.bed i) x ≤ℤ c.dry) is d)

-- check 5 of a call that is lent what it wrote
module _ (l : Lent) (ok : verdict (all_checks l) ≡ 0) (m : Lent) (now : m.now ≡ filled l) (bed : m.bed ≡ l.bed)
    (cells : cells_of m ≡ cells_of l) where
  abbrev off_in : ℕ → List ℤ → List ℤ → Bool
  off_in k b t = some (λ i. off_pool (get_or b i (pos 0)) (pool_in k t i)) k

  pub again_in_range : applies (check_five m) ≡ false
  unfolding off
  again_in_range = (λ j. off_in (cells j) (bed j) (now j)) ∙ written_in_range l ok

-- ---- an accepted call as a step of the rules
module _ (bed : List ℤ) (n dx : ℕ) (s m : List ℤ) (w v : ℤ) (k : AcceptedCall bed n dx s m w v) where
  abbrev call : Call
  call = call_of (lent k.call)

  abbrev reach : Reach
  reach = reach_at bed n dx

  one : One bed n dx call s m w v
  unfolding filled crossed
  one = subst (λ (j : ℕ). One bed j dx call s m w v) k.call.given.cells whole
    where
      whole : One bed (length k.call.given.friction) dx call s m w v
      whole =
          let l = lent k.call in let j = cells_of l in
          let t = taken (by_checks l k.call.gave) w v k.crossed in
          let f = lengths l t.number in let y = next (reach_of l) (call_of l) (state_of l) in
          record {
            some = f.some;
            now = f.now;
            size = ap length t.table ∙ length_pools j y;
            unstopped = unrefused l t.number;
            same = λ i b. ap (λ (x : List ℤ). pool_in j x i) t.table ∙ pool_in_table j y i b;
            left = t.left;
            right = t.right;
          }

  -- the water changes by what crossed the ends
  pub one_balanced : water bed m n ≡ water bed s n +ℤ w -ℤ v
  one_balanced =
      let x = pool_in n s in
      water_is bed m n dx ∙ balance.water_same reach (next reach call x) (pool_in n m) one.same ∙ balance.balanced reach call x
      ∙ (λ i. sym (water_is bed s n dx) i +ℤ sym one.left i -ℤ sym one.right i)

  -- no depth is below nought, in what is lent and in what is written
  pub one_now : NoneBelow bed s n
  one_now = none_below bed s n dx (accepted_depths reach lawful call (pool_in n s) one.unstopped).0

  pub one_written : NoneBelow bed m n
  one_written = none_below bed m n dx (wet_same reach (next reach call (pool_in n s)) (pool_in n m) one.same
      (accepted_depths reach lawful call (pool_in n s) one.unstopped).1)

  -- a lake at rest keeps every number, and nothing crosses its ends
  pub one_rests : Lake bed s n → (m ≡ s) × (w ≡ pos 0) × (v ≡ pos 0)
  one_rests lake =
      let z = accepted_rest reach lawful one.some call (pool_in n s) one.unstopped (at_rest bed s n dx lake) in (
        pools_are n m (pool_in n s) one.size (λ i b. one.same i b ∙ z.0 i b) ∙ table_pools n s one.now,
        one.left ∙ z.1,
        one.right ∙ z.2,
      )
