-- From what a caller sees to the rules: a call by its checks, tables as states, an accepted call as a step, and calls as a chain of them.
-- Assumes nothing.
use Rattle.std.specs.Prelude.{◌≡◌, Bool, true, false, List, [], ◌∷◌, ◌⊎◌, T, eqb, length, ℤ, ◌+ℤ◌, ◌-ℤ◌, ◌≤ℤ◌}
use Rattle.std.proofs.Math.Path.{refl, ap, subst}
use Rattle.std.proofs.Common.{sym, ◌∙◌, ⊎_elim}
use Rattle.std.proofs.Math.Bool.{cond}
use Rattle.std.proofs.Math.Logic.{inl, inr}
use Prim.Native.Nat.{ℕ, zero, suc, ◌<◌}
use native.Mathlib.Omega.{arith}
use Rattle.std.proofs.Math.IntN.{pos}
use Rattle.whole.specs.Flags.{by}
use Rattle.whole.specs.Parts.{le_of}
use Rattle.whole.specs.Choice.{size_z}
use Rattle.tables.specs.Cells.{Cell, cell_in, table_of}
use Rattle.tables.proofs.Cells.{length_table, cell_in_table, table_is, table_cells}
use Rattle.rules.specs.Reach.{Reach, Call, State, under, bed_at, z0, z1, h0, h1, hl, hr}
use Rattle.rules.specs.Step.{stage_one, joined, next}
use Rattle.rules.specs.Ends.{End, inflow_kind}
use Rattle.tables.specs.Some.{some, lowest}
use Rattle.rules.specs.Refusals.{bad_end, bad_call, bad_bed, bad_rough, off_cell, off, of_call, each, applies, verdict, spot}
use Rattle.rules.specs.Refusals.{stage_checks, early, checks, refusal, refused_at}
use Rattle.rules.specs.Lent.{Lent, reach_of, call_of, state_of, cells_of, misfits, number, place, filled, crossed}
use Rattle.rules.specs.Lent.{Outcome, refused, accepted, outcome, step_of}
use Rattle.rules.specs.AtRest.{Dry, Flat, AtRest}
use Rattle.rules.proofs.Laws.DryDepth.{finished_calm}
use Rattle.rules.proofs.Laws.Accept.{passed}
use Rattle.rules.specs.Found.{Found, found, found_of}
use Rattle.rules.proofs.Laws.Verdicts.{went_past}
use Rattle.rules.proofs.Laws.StillChecks.{input, worked, two_parts, seven_alone}
use Rattle.rules.proofs.Laws.Lengths.{fitted, first_number, later_number, fits, unrefused}
use Rattle.rules.proofs.Laws.Written.{written_in_range}
use Rattle.rules.proofs.Laws.Within.{Within, checks_within, one_only}
use Rattle.rules.proofs.Laws.Positive.{Nonneg, Wet, wet_same}
use Rattle.rules.proofs.Laws.Telescope.{sum}
use Rattle.rules.proofs.Laws.Balance as balance
use Rattle.rules.proofs.Laws.Face.{lawful}
use Rattle.rules.proofs.Laws.EndChecks.{kind_in, inflow_in, inflow_only}
use Rattle.rules.proofs.Laws.EndVolumes.{left_shut, left_brought, left_most}
use Rattle.rules.proofs.Laws.Runs.{accepted as accepted-call, accepted_ends, Depths, depths, accepted_depths, accepted_rest}
use Rattle.rules.proofs.Laws.Runs.{TooLarge, Large}
use Rattle.rules.specs.Laws.Rest as rest-words
use Rattle.rules.specs.Laws.Chain.{Chain, stop, step}
use Rattle.step.specs.Gives.{Answer, code, placed, volumes, both, Gives}
use Rattle.promises.specs.Seen.{at, level, level_slope, discharge, discharge_slope, mean_bed, bed_slope, mean_depth, left_depth}
use Rattle.promises.specs.Seen.{right_depth, NoneBelow, Excess, total, water, Listed, most_passed, brought, Lake}
use Rattle.promises.specs.Seen.{all_checks, check_five, Called, lent, Calls, none, more, NoInflow}
use Rattle.promises.specs.First.{listed}
use Rattle.promises.specs.ByChecks as call
use Rattle.promises.specs.ByChecks.{ByChecks}
use Rattle.promises.specs.Outcomes.{Taken, reach_at, One, AStep, ShutStep}

-- ---- a call by its checks
module _ (l : Lent) where
  found_is : found_of l ≡ found (all_checks l)
  unfolding number place refusal refused_at all_checks verdict spot some lowest
  found_is = by (misfits l) (λ e. rw e) (λ e. rw e)

  number_is : number l ≡ verdict (all_checks l)
  number_is = ap (λ (f : Found). f.no) found_is

  step_is : step_of l ≡ outcome (all_checks l) (filled l) (crossed l 0) (crossed l (cells_of l))
  unfolding step_of outcome
  step_is = let took = accepted (filled l) (crossed l 0) (crossed l (cells_of l)) in
      ap (λ (f : Found). cond (eqb f.no 0) took (refused f.no f.place)) found_is

  pub by_checks : {a : Answer} {old new : List ℤ} → Gives (step_of l) a old new
      → ByChecks (all_checks l) (filled l) (crossed l 0) (crossed l (cells_of l)) a old new
  by_checks {a} {old} {new} g = record { gave = subst (λ (o : Outcome). Gives o a old new) step_is g }

  -- their numbers, and their places
  pub all_listed : T (listed (all_checks l))
  unfolding all_checks checks early stage_checks
  all_listed = tt

  pub ones_whole : T (one_only 1 (all_checks l))
  unfolding all_checks checks early stage_checks
  ones_whole = tt

  pub twos_whole : T (one_only 2 (all_checks l))
  unfolding all_checks checks early stage_checks
  twos_whole = tt

  pub all_within : Within (cells_of l) (all_checks l)
  unfolding all_checks
  all_within = (omega arith, checks_within (reach_of l) (call_of l) (state_of l))

  -- ---- by the number of its answer
  module _ {a : Answer} {old new : List ℤ} (g : Gives (step_of l) a old new) where
    pub coded : code a ≡ number l
    coded = call.coded (by_checks g) ∙ sym number_is

    pub refused_place : 0 < code a → placed a ≡ place l
    refused_place some = call.refused_place (by_checks g) some ∙ sym (ap (λ (f : Found). f.place) found_is)

    pub refused_later : code a ≡ 8 → refusal (reach_of l) (call_of l) (state_of l) ≡ 8
    refused_later e = by (misfits l)
        (λ b. let z = first_number l b in let w : ⊥ = omega (arith, coded) in absurd w)
        (λ b. sym (later_number l b) ∙ sym coded ∙ e)

    pub accepted_table : code a ≡ 0 → new ≡ filled l
    accepted_table e = call.accepted_table (by_checks g) e

-- an accepted call: its number, its volumes and its table
pub taken : (l : Lent) (a : Answer) (w v : ℤ) (old new : List ℤ) → volumes a ≡ both w v → Gives (step_of l) a old new → Taken l w v new
taken l a w v old new e g = let t = call.taken (by_checks l g) w v e in
    record { number = number_is l ∙ t.number; left = t.left; right = t.right; table = t.table }

-- ---- tables as states
module _ (bed t : List ℤ) (dx : ℕ) where
  pub none_below : (n : ℕ) → Depths (reach_at bed n dx) (cell_in n t) → NoneBelow bed t n
  unfolding mean_depth left_depth right_depth mean_bed bed_slope h0 h1 hl hr z0 z1
  none_below n d = record { mean = d.mean; left = λ i l. (d.faces i l).left; right = λ i l. (d.faces i l).right }

  pub water_is : (n : ℕ) → water bed t n ≡ balance.water (reach_at bed n dx) (cell_in n t)
  unfolding balance.water water total sum mean_depth mean_bed h0 z0
  water_is n = go n
    where
      go : (m : ℕ) → total (mean_depth bed t n) m ≡ sum (λ i. h0 (under (reach_at bed n dx) i) (cell_in n t i)) m
      go zero = refl
      go (suc m) = ap (λ (x : ℤ). x +ℤ mean_depth bed t n m) (go m)

  pub at_rest : (n : ℕ) → Lake bed t n → AtRest (reach_at bed n dx) (cell_in n t)
  unfolding mean_bed bed_slope z0 z1
  at_rest n k =
      record { calm = λ i l. record { q0 = k.mean i l; q1 = k.slope i l }; cell = λ i l. kind i (k.cell i l); level = k.meet }
    where
      kind : (i : ℕ)
          → ((level t n i ≡ mean_bed bed i) × (level_slope t n i ≡ bed_slope bed i))
          ⊎ ((level_slope t n i ≡ pos 0) × (at bed i ≤ℤ level t n i) × (at bed (suc i) ≤ℤ level t n i))
          → Dry (under (reach_at bed n dx) i) (cell_in n t i) ⊎ Flat (under (reach_at bed n dx) i) (cell_in n t i)
      kind i (inl d) = inl (record { mean = d.0; slope = d.1 })
      kind i (inr f) = inr (record { slope = f.0; left = f.1; right = f.2 })

-- ---- states written as tables
module _ (bed : List ℤ) (n dx : ℕ) (s : State) where
  abbrev table : List ℤ
  table = table_of n s

  wet_table : Wet (reach_at bed n dx) s → Wet (reach_at bed n dx) (cell_in n table)
  wet_table w i l = subst (Nonneg (under (reach_at bed n dx) i)) (sym (cell_in_table n s i l)) (w i l)

  pub none_below_table : Wet (reach_at bed n dx) s → NoneBelow bed table n
  none_below_table w = none_below bed table dx n (depths (reach_at bed n dx) (cell_in n table) (wet_table w))

  pub excess_table : (k : Large (reach_at bed n dx) s) → Excess bed table n
  unfolding left_depth right_depth mean_depth mean_bed bed_slope h0 h1 hl hr z0 z1
  excess_table k = record {
    cell = k.cell;
    below = k.below;
    large = subst (TooLarge (under (reach_at bed n dx) k.cell)) (sym (cell_in_table n s k.cell k.below)) k.large;
  }

-- a table that an accepted call wrote has no discharge in a cell no deeper than its dry depth
pub written_calm : (l : Lent) {new : List ℤ} → new ≡ filled l → (i : ℕ) → i < cells_of l
    → mean_depth l.bed new (cells_of l) i ≤ℤ pos l.dry
    → (discharge new (cells_of l) i ≡ pos 0) × (discharge_slope new (cells_of l) i ≡ pos 0)
unfolding filled next mean_depth mean_bed h0 z0
written_calm l {new} e i m d =
    let r = reach_of l in let c = call_of l in let s = state_of l in
    let n = cells_of l in
    let is : cell_in n new i ≡ next r c s i = ap (λ (t : List ℤ). cell_in n t i) e ∙ cell_in_table n (next r c s) i m in
    let calm = finished_calm r c (joined r c s) i (subst (λ (x : Cell). h0 (under r i) x ≤ℤ c.dry) is d) in
    (ap (λ (x : Cell). x.q0) is ∙ calm.0, ap (λ (x : Cell). x.q1) is ∙ calm.1)

-- ---- the ends of an accepted call
pub both_listed : (l : Lent) → number l ≡ 0 → Listed l.left × Listed l.right
both_listed l e = let p = accepted_ends (reach_of l) (call_of l) (state_of l) (unrefused l e) in
    (listed l.left p.0, listed l.right p.1)
  where
    listed : (e : End) → bad_end e ≡ false → Listed e
    listed e b = record { kind = kind_in e b; q = inflow_in e b; other = inflow_only e b }

-- nothing crosses a wall, and an inflow brings in what is known before the step
pub wall_left : (l : Lent) → l.left.kind ≡ 0 → crossed l 0 ≡ pos 0
unfolding crossed
wall_left l e = left_shut (reach_of l) lawful (call_of l) e (state_of l)

pub inflow_left : (l : Lent) → l.left.kind ≡ inflow_kind → crossed l 0 ≡ brought l l.left
unfolding crossed brought
inflow_left l e = left_brought (reach_of l) lawful (call_of l) e (state_of l)

-- at any other end no more passes than half of the greatest depth
pub passed_left : (l : Lent) → number l ≡ 0 → (l.left.kind ≡ inflow_kind → ⊥) → size_z (crossed l 0) ≤ℤ most_passed
unfolding crossed size_z
passed_left l e other =
    let r = reach_of l in let c = call_of l in let s = state_of l in
    let some = (fitted (length l.now) l.room (length l.bed) (cells_of l) (fits l e)).some in
    let most = (left_most r lawful c other s some (accepted-call r c s (unrefused l e))).abs in
    le_of (size_z (crossed l 0)) most_passed (omega (arith, most))

-- ---- an accepted call as a step of the rules
pub one : (bed : List ℤ) (n dx : ℕ) (s : List ℤ) (a : Answer) (w v : ℤ) (old m : List ℤ) → volumes a ≡ both w v
    → (c : Called bed n dx s a old m) → One bed n dx (call_of (lent c)) s m w v
unfolding filled crossed
one bed n dx s a w v old m e c = subst (λ (k : ℕ). One bed k dx (call_of (lent c)) s m w v) c.given.cells whole
  where
    whole : One bed (length c.given.friction) dx (call_of (lent c)) s m w v
    whole =
        let t = taken (lent c) a w v old m e c.gave in let k = length c.given.friction in
        let f = fitted (length s) (length old) (length bed) k (fits (lent c) t.number) in
        let y = next (reach_of (lent c)) (call_of (lent c)) (cell_in k s) in
        record {
          some = f.some;
          now = f.now;
          size = ap length t.table ∙ length_table k y;
          unstopped = unrefused (lent c) t.number;
          same = λ i l. ap (λ (x : List ℤ). cell_in k x i) t.table ∙ cell_in_table k y i l;
          left = t.left;
          right = t.right;
        }

-- what such a step does, as a caller sees it
module _ (bed : List ℤ) (n dx : ℕ) (c : Call) (s m : List ℤ) (w v : ℤ) (o : One bed n dx c s m w v) where
  abbrev reach : Reach
  reach = reach_at bed n dx

  pub one_balanced : water bed m n ≡ water bed s n +ℤ w -ℤ v
  one_balanced =
      let x = cell_in n s in
      water_is bed m dx n ∙ balance.water_same reach (next reach c x) (cell_in n m) o.same ∙ balance.balanced reach c x
      ∙ (λ i. sym (water_is bed s dx n) i +ℤ sym o.left i -ℤ sym o.right i)

  abbrev reached : (Depths reach (cell_in n s)) × (Depths reach (stage_one reach c (cell_in n s))) × (Depths reach (next reach c (cell_in n s)))
  reached = accepted_depths reach lawful c (cell_in n s) o.unstopped

  pub one_now : NoneBelow bed s n
  one_now = none_below bed s dx n reached.0

  pub one_written : NoneBelow bed m n
  one_written = none_below bed m dx n
      (depths reach (cell_in n m) (wet_same reach (next reach c (cell_in n s)) (cell_in n m) o.same reached.2.faces))

  pub one_rests : rest-words.NoInflow c → Lake bed s n → (m ≡ s) × (w ≡ pos 0) × (v ≡ pos 0)
  one_rests shut lake =
      let z = accepted_rest reach lawful o.some c (cell_in n s) o.unstopped shut (at_rest bed s dx n lake) in (
        table_is n m (cell_in n s) o.size (λ i l. o.same i l ∙ z.0 i l) ∙ table_cells n s o.now,
        o.left ∙ z.1,
        o.right ∙ z.2,
      )

-- ---- calls as a chain of steps, and of steps that bring no water in
module _ (bed : List ℤ) (n dx : ℕ) where
  pub chain : {s t : List ℤ} {a b : ℤ} → Calls bed n dx s t a b → Chain (AStep bed n dx) s t a b
  chain (none t) = stop t
  chain (more s m t old x w v a b e c k) = step s m t w v a b (call_of (lent c), one bed n dx s x w v old m e c) (chain k)

  pub shut_chain : {s t : List ℤ} {a b : ℤ} (k : Calls bed n dx s t a b) → NoInflow k → Chain (ShutStep bed n dx) s t a b
  shut_chain (none t) d = stop t
  shut_chain (more s m t old x w v a b e c k) d =
      step s m t w v a b (call_of (lent c), record { left = d.0; right = d.1 }, one bed n dx s x w v old m e c) (shut_chain k d.2)

-- ---- a lake at rest: a number over 5 is a 7
pub lake_number : (l : Lent) → Lake l.bed l.now (cells_of l) → l.left.q ≡ 0 → l.right.q ≡ 0 → 5 < number l → number l ≡ 7
lake_number l lake left right over = by (misfits l)
    (λ b. let z = first_number l b in let w : ⊥ = omega arith in absurd w)
    (λ b.
    let r = reach_of l in let c = call_of l in let s = state_of l in
    let is = later_number l b ∙ two_parts r c s in
    let past = went_past 5 (input r c s) (worked r c s) tt (subst (λ (k : ℕ). 5 < k) is over) in
    let some = (fitted (length l.now) l.room (length l.bed) (cells_of l) b).some in
    let number = is ∙ past.1 in
    ⊎_elim (λ e. let z = number ∙ e in let w : ⊥ = omega arith in absurd w) (λ e. number ∙ e)
    (seven_alone r lawful some c (record { left = left; right = right }) s (at_rest l.bed l.now l.dx (cells_of l) lake) past.0))

-- ---- check 5 of a call that is lent what an accepted one wrote
module _ (l m : Lent) (ok : number l ≡ 0) (now : m.now ≡ filled l) (bed : m.bed ≡ l.bed) (cells : cells_of m ≡ cells_of l) where
  abbrev off_in : ℕ → List ℤ → List ℤ → Bool
  off_in k b t = some (λ i. off_cell (bed_at b i) (cell_in k t i)) k

  pub again_in_range : applies (check_five m) ≡ false
  unfolding off
  again_in_range = (λ j. off_in (cells j) (bed j) (now j)) ∙ written_in_range l ok

-- a 5 is given by check 5 alone
pub five_applies : (m : Lent) → number m ≡ 5 → applies (check_five m) ≡ true
unfolding all_checks checks early stage_checks verdict
five_applies m e =
    let r = reach_of m in let c = call_of m in let s = state_of m in
    let lent = (passed 5 (of_call 1 (misfits m) ∷ of_call 2 (bad_call r c) ∷ each 3 (suc r.n) (λ i. bad_bed (r.bed i))
    ∷ each 4 r.n (λ i. bad_rough (c.rough i)) ∷ []) (check_five m ∷ worked r c s) tt (sym (number_is m) ∙ e)).1 in
    by (applies (check_five m)) (λ b. b)
    (λ b. let z = (passed 5 (worked r c s) [] tt (rw b at lent)).1 in let w : ⊥ = omega arith in absurd w)
