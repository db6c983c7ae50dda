-- The three demands, said of the calls themselves: of the tables lent and written, the answers and the volumes.
--
-- `Called` and `Calls` (in `Seen`) are calls of `step` as a caller sees them. That every call ends, does nothing undefined and meets its
-- contract for all that it is lent is what the toolchain proves of each public function, none of which asks anything of its caller.
--
-- Nothing here would be worth much of a step that copies `now` to `next`, gives two noughts for the volumes and never refuses: it balances,
-- keeps every lake and every depth. But `Called` holds the contract, `Gives (step_of ..)`, which leaves one answer and one table
-- (`step_answer`, `step_table`): those of the rules' two stages. So what follows is said of that step, and of no other.
-- Assumes nothing.
use Rattle.std.specs.Prelude.{◌≡◌, false, List, [], ◌∷◌, ◌++◌, ◌⊎◌, ℕ, suc, ◌-◌, ◌≤◌, ◌<◌, ℤ, neg_ℤ, ◌+ℤ◌, ◌-ℤ◌, ◌≤ℤ◌, Float}
use Rattle.std.specs.Prelude.{Option, Result, option_map}
use Rattle.std.proofs.Math.Path.{refl, ap, subst}
use Rattle.std.proofs.Common.{sym, ◌∙◌, ⊎_elim}
use Rattle.std.proofs.Math.Logic.{inl, inr}
use Rattle.std.proofs.Math.ListN.{length}
use Rattle.std.proofs.Math.IntN.{pos, neg_ℤ-neg_ℤ}
use Rattle.whole.specs.Flags.{clash}
use Rattle.whole.specs.Parts.{abs_neg}
use Rattle.whole.specs.Choice.{size_z}
use Rattle.rules.specs.Face.{Side}
use Rattle.tables.specs.Cells.{Cell, cell_in, table_of}
use Rattle.tables.proofs.Cells.{cell_in_table}
use Rattle.rules.specs.Reach.{State}
use Rattle.rules.proofs.Laws.Lengths.{fitted}
use Rattle.rules.specs.Step.{stage_one, next}
use Rattle.rules.specs.Refusals.{off, each, applies, Clear, stage_checks, early, checks}
use Rattle.rules.specs.Lent.{Lent, cells_of, reach_of, call_of, state_of, misfits, place, filled, crossed, step_of}
use Rattle.rules.specs.Found.{found_of}
use Rattle.rules.proofs.Laws.Chain.{chain_balanced, chain_keeps, chain_still}
use Rattle.rules.proofs.Laws.Face.{lawful}
use Rattle.rules.proofs.Laws.Runs.{reached_one, reached_end, Large, eight}
use Rattle.survey.specs.Turned.{turned_cell, turned_table, turned_call}
use Rattle.survey.proofs.Laws.Twice.{call_twice}
use Rattle.survey.proofs.Laws.Lent.{number_turned}
use Rattle.speeds.specs.Given.{speed_given, wave_given, cube_given}
use Rattle.friction.specs.Given.{strength_given, slowed_given}
use Rattle.face.specs.Given.{face_given}
use Rattle.face.specs.Sides.{flux_in}
use Rattle.face.specs.declared.sides.Flux.{Flux}
use Rattle.digits.specs.Root.{DigitsSay}
use Rattle.root.specs.Root.{RootIs}
use Rattle.double.specs.Face.{FaceIs}
use Rattle.digits.specs.declared.Root.{Root}
use Rattle.double.specs.declared.face.Flux.{Flux as DoubleFlux}
use Rattle.double.specs.declared.face.OutOfRange.{OutOfRange}
use Rattle.finishing.specs.declared.unfit.Unfit.{Unfit}
use Rattle.speeds.proofs.Unique.{speed_unique, wave_unique, cube_unique}
use Rattle.friction.proofs.Unique.{strength_unique, slowed_unique}
use Rattle.face.proofs.Unique.{face_unique}
use Rattle.digits.proofs.Unique.{digits_unique}
use Rattle.root.proofs.Unique.{root_unique}
use Rattle.double.proofs.face.Unique as doubles
use Rattle.reach.specs.declared.Reach.{Reach as ToldReach}
use Rattle.reach.specs.declared.Call.{Call as ToldCall}
use Rattle.finishing.specs.FinishSays.{FinishSays}
use Rattle.finishing.specs.Laws.OneFinish.{one_finish}
use Rattle.stage.specs.Worked.{WorkedSays}
use Rattle.stage.specs.Laws.OneAnswer.{one_said}
use Rattle.step.specs.Gives.{Answer, code, placed, volumes, absent, both, Gives, one_answer, one_table}
use Rattle.promises.specs.Seen.{all_checks, to_stage_one, to_end, check_five, FirstMet, FirstMetAt}
use Rattle.promises.specs.Seen.{level, level_slope, discharge, discharge_slope, mean_depth, NoneBelow, Excess, stage_table}
use Rattle.promises.specs.Seen.{water, Listed, most_passed, brought, Lake}
use Rattle.promises.specs.Seen.{Called, lent, Calls, NoInflow, FitsI32, NoneLeast, FromOtherEnd}
use Rattle.promises.specs.ByChecks as call
use Rattle.promises.specs.ByChecks.{accepted_with}
use Rattle.promises.proofs.Outcomes.{by_checks, all_listed, ones_whole, twos_whole, all_within, coded, refused_place, refused_later}
use Rattle.promises.specs.Outcomes.{Taken}
use Rattle.promises.proofs.Outcomes.{accepted_table, taken, none_below_table, excess_table, written_calm, both_listed}
use Rattle.promises.proofs.Outcomes.{wall_left, inflow_left, passed_left, one, one_balanced, one_now, one_written, one_rests}
use Rattle.promises.specs.Outcomes.{AStep, ShutStep}
use Rattle.promises.proofs.Outcomes.{chain, shut_chain, lake_number, again_in_range, five_applies}
use Rattle.promises.proofs.OtherEnd.{other_gives, other_run, turned_fits, accepted_none_least}

-- ---- demand 1: one answer, one content of the table
pub step_answer : (l : Lent) {a b : Answer} {old new new' : List ℤ} → Gives (step_of l) a old new → Gives (step_of l) b old new' → a ≡ b
step_answer l p q = one_answer p q

pub step_table : (l : Lent) {a b : Answer} {old new new' : List ℤ} → Gives (step_of l) a old new → Gives (step_of l) b old new' → new ≡ new'
step_table l p q = one_table p q

-- and so of every other public function
pub work_one : (l : Lent) (old new new' : List ℤ) (a b : Answer) → WorkedSays l a old new → WorkedSays l b old new'
    → (a ≡ b) × (new ≡ new')
work_one l old new new' a b p q = one_said (reach_of l) (call_of l) (state_of l) (found_of l) old new new' a b p q

pub finish_one : (reach : ToldReach) (call : ToldCall) (bed : List ℤ) (u : List (List ℤ)) (a b : Result Unit Unfit)
    (old new new' : List (List ℤ))
    → FinishSays reach call bed u a old new → FinishSays reach call bed u b old new' → (a ≡ b) × (new ≡ new')
finish_one reach call bed u a b old new new' p q = one_finish reach call bed u a b old new new' p q

pub speed_one : (q h d : ℤ) (a b : Option ℤ) → a ≡ speed_given q h d → b ≡ speed_given q h d → a ≡ b
speed_one q h d a b x y = speed_unique q h d a b x y

pub wave_one : (h : ℤ) (a b : Option ℤ) → a ≡ wave_given h → b ≡ wave_given h → a ≡ b
wave_one h a b x y = wave_unique h a b x y

pub cube_one : (h : ℤ) (a b : Option ℤ) → a ≡ cube_given h → b ≡ cube_given h → a ≡ b
cube_one h a b x y = cube_unique h a b x y

pub strength_one : (dt f h u : ℤ) (a b : Option ℤ) → a ≡ strength_given dt f h u → b ≡ strength_given dt f h u → a ≡ b
strength_one dt f h u a b x y = strength_unique dt f h u a b x y

pub slowed_one : (x q : ℤ) (a b : Option ℤ) → a ≡ slowed_given x q → b ≡ slowed_given x q → a ≡ b
slowed_one x q a b p r = slowed_unique x q a b p r

pub face_one : (l r : Side) (a b : Option Flux) → option_map flux_in a ≡ face_given l r → option_map flux_in b ≡ face_given l r → a ≡ b
face_one l r a b x y = face_unique l r a b x y

pub digits_one : (number noughts : ℕ) {a b : Option Root} → DigitsSay number noughts a → DigitsSay number noughts b → a ≡ b
digits_one number noughts p q = digits_unique p q

pub root_one : {x : Float} {a b : Option Float} → RootIs x a → RootIs x b → a ≡ b
root_one p q = root_unique p q

pub double_one : (hl ul hr ur : Float) (a b : Result (Option DoubleFlux) OutOfRange) → FaceIs hl ul hr ur a → FaceIs hl ul hr ur b → a ≡ b
double_one hl ul hr ur a b x y = doubles.face_unique hl ul hr ur a b x y

-- ---- the answer, by its number, its place and its volumes (`code`, `placed`, `volumes`)
module _ (l : Lent) (a : Answer) (old new : List ℤ) (g : Gives (step_of l) a old new) where
  -- a call is refused with k exactly when a check numbered k is the first one met,
  pub refused_first : 0 < code a → FirstMet (code a) (all_checks l)
  refused_first some = call.refused_first (by_checks l g) some

  pub first_refused : (k : ℕ) → FirstMet k (all_checks l) → code a ≡ k
  first_refused k f = call.first_refused (by_checks l g) k f

  -- a number from 1 to 8; the table is then what it was, and there are no volumes
  pub refused_listed : code a < 9
  refused_listed = call.refused_listed (by_checks l g) (all_listed l)

  pub refused_untouched : 0 < code a → (new ≡ old) × (volumes a ≡ absent)
  refused_untouched some = call.refused_untouched (by_checks l g) some

  -- and at p exactly when p is below the number of places that this check has (bed values, cells, faces, or one for the call as a whole),
  -- its condition holds there, and at no lower one;
  pub refused_at : 0 < code a → FirstMetAt (code a) (placed a) (all_checks l)
  refused_at some = call.refused_at (by_checks l g) some

  pub at_refused : (k p : ℕ) → FirstMetAt k p (all_checks l) → (code a ≡ k) × (placed a ≡ p)
  at_refused k p f = call.at_refused (by_checks l g) (all_listed l) k p f

  -- for a 1 or a 2 that is 0, as it is when the call is accepted, and for none does it lie past the last face
  pub refused_whole : code a ≤ 2 → placed a ≡ 0
  refused_whole few = call.refused_whole (by_checks l g) (ones_whole l) (twos_whole l) few

  pub refused_within : placed a ≤ cells_of l
  refused_within = call.refused_within (by_checks l g) (cells_of l) (all_within l)

  -- it is accepted exactly when none is met
  pub accepted_clear : code a ≡ 0 → Clear (all_checks l)
  accepted_clear e = call.accepted_clear (by_checks l g) (all_listed l) e

  pub clear_accepted : Clear (all_checks l) → code a ≡ 0
  clear_accepted k = call.clear_accepted (by_checks l g) k

  -- ---- demand 2: an accepted call's table and volumes are those of the rules' two stages, number for number
  pub accepted_rules : code a ≡ 0 → (new ≡ filled l) × (volumes a ≡ both (crossed l 0) (crossed l (cells_of l)))
  accepted_rules e = (call.accepted_table (by_checks l g) e, call.accepted_volumes (by_checks l g) e)

-- an answer with volumes is that of an accepted call
pub volumes_accepted : (a : Answer) (w v : ℤ) → volumes a ≡ both w v → code a ≡ 0
volumes_accepted a w v e = call.volumes_code a w v e

-- ---- the dry depth is each call's own: what an accepted one writes has no discharge where it is no deeper
pub shallow_calm : (l : Lent) (a : Answer) (old new : List ℤ) → Gives (step_of l) a old new → code a ≡ 0 → (i : ℕ) → i < cells_of l
    → mean_depth l.bed new (cells_of l) i ≤ℤ pos l.dry
    → (discharge new (cells_of l) i ≡ pos 0) × (discharge_slope new (cells_of l) i ≡ pos 0)
shallow_calm l a old new g e i m d = written_calm l (accepted_table l g e) i m d

-- ---- the ends of an accepted call, and what crosses them
module _ (l : Lent) (a : Answer) (w v : ℤ) (old new : List ℤ) (is : volumes a ≡ both w v) (g : Gives (step_of l) a old new) where
  abbrev went : Taken l w v new
  went = taken l a w v old new is g

  -- the call turned round is accepted too
  abbrev there : Taken (turned_call l) (neg_ℤ v) (neg_ℤ w) (turned_table (cells_of l) new)
  unfolding volumes
  there = taken (turned_call l) (accepted_with (neg_ℤ v) (neg_ℤ w)) (neg_ℤ v) (neg_ℤ w) old (turned_table (cells_of l) new) refl
      (other_gives l a w v old new is g old)

  -- what crosses the right end is what crosses the left one of that call
  right_is : {x : ℤ} → crossed (turned_call l) 0 ≡ x → v ≡ neg_ℤ x
  right_is e = sym (neg_ℤ-neg_ℤ v) ∙ ap neg_ℤ (there.left ∙ e)

  -- each end is in its lists, and Q is nought at an end of another kind than 2
  pub ends_listed : Listed l.left × Listed l.right
  ends_listed = both_listed l went.number

  -- nothing crosses a wall;
  pub left_wall : l.left.kind ≡ 0 → w ≡ pos 0
  left_wall e = went.left ∙ wall_left l e

  pub right_wall : l.right.kind ≡ 0 → v ≡ pos 0
  right_wall e = right_is (wall_left (turned_call l) e)

  -- what an inflow brought in is known before the step: Q·dt/dx, whatever the state, into the reach at either end;
  pub left_inflow : l.left.kind ≡ 2 → w ≡ brought l l.left
  left_inflow e = went.left ∙ inflow_left l e

  pub right_inflow : l.right.kind ≡ 2 → v ≡ neg_ℤ (brought l l.right)
  unfolding brought
  right_inflow e = right_is (inflow_left (turned_call l) e)

  -- and at a wall or an open end no more than 131,072 passes either way
  pub left_within : (l.left.kind ≡ 2 → ⊥) → size_z w ≤ℤ most_passed
  left_within f = subst (λ (z : ℤ). size_z z ≤ℤ most_passed) (sym went.left) (passed_left l went.number f)

  pub right_within : (l.right.kind ≡ 2 → ⊥) → size_z v ≤ℤ most_passed
  unfolding size_z
  right_within f = let far = crossed (turned_call l) 0 in
      subst (λ (z : ℤ). z ≤ℤ most_passed) (ap pos (sym (abs_neg far)) ∙ ap size_z (sym (right_is refl)))
      (passed_left (turned_call l) there.number f)

-- ---- demand 3, of any call
module _ (l : Lent) where
  -- no depth is below nought in a finished stage one or end state that a call reaches, whether it is refused there or later, or accepted
  pub none_below_stage : Clear (to_stage_one l) → NoneBelow l.bed (stage_table l) (cells_of l)
  unfolding stage_table to_stage_one
  none_below_stage ok = none_below_table l.bed (cells_of l) l.dx (stage_one (reach_of l) (call_of l) (state_of l))
      (reached_one (reach_of l) lawful (call_of l) (state_of l) ok.1)

  pub none_below_end : Clear (to_end l) → NoneBelow l.bed (filled l) (cells_of l)
  unfolding filled to_end to_stage_one
  none_below_end ok = none_below_table l.bed (cells_of l) l.dx (next (reach_of l) (call_of l) (state_of l))
      (reached_end (reach_of l) lawful (call_of l) (state_of l) ok.1)

  -- these are the checks before those of the finished stage one and of the end state
  pub in_order : all_checks l ≡ to_end l ++ each 8 (cells_of l) (off (reach_of l) (next (reach_of l) (call_of l) (state_of l))) ∷ []
  unfolding all_checks to_end to_stage_one checks early stage_checks
  in_order = refl

  -- a lake at rest into which no water is brought: where what is lent passes 1 to 5, it can be refused by 7 alone
  pub lake_seven : (a : Answer) (old new : List ℤ) → Gives (step_of l) a old new → Lake l.bed l.now (cells_of l)
      → l.left.q ≡ 0 → l.right.q ≡ 0 → 5 < code a → code a ≡ 7
  lake_seven a old new g lake left right high =
      coded l g ∙ lake_number l lake left right (subst (λ (k : ℕ). 5 < k) (coded l g) high)

-- what an accepted call wrote passes check 5 when it is lent again on that bed, so no call that is lent it gives a 5
module _ (l : Lent) (a : Answer) (old new : List ℤ) (g : Gives (step_of l) a old new) (e : code a ≡ 0) (m : Lent) (now : m.now ≡ new)
    (bed : m.bed ≡ l.bed) (cells : cells_of m ≡ cells_of l) where
  pub lent_again : applies (check_five m) ≡ false
  lent_again = again_in_range l m (sym (coded l g) ∙ e) (now ∙ accepted_table l g e) bed cells

  pub never_five : (b : Answer) (old' new' : List ℤ) → Gives (step_of m) b old' new' → code b ≡ 5 → ⊥
  never_five b old' new' h f = let again = again_in_range l m (sym (coded l g) ∙ e) (now ∙ accepted_table l g e) bed cells in
      clash (sym again ∙ five_applies m (sym (coded m h) ∙ f))

-- ---- demand 3, over any number of accepted calls on one bed with n cells of length dx; all else that they are given may differ
module _ (bed : List ℤ) (n dx : ℕ) where
  -- the water balances with what the ends bring and take, to the unit
  pub water_balances : {s t : List ℤ} {a b : ℤ} → Calls bed n dx s t a b → water bed t n ≡ water bed s n +ℤ a -ℤ b
  water_balances k =
      chain_balanced (AStep bed n dx) (λ t. water bed t n) (λ s m w v o. one_balanced bed n dx o.0 s m w v o.1) (chain bed n dx k)

  -- no depth falls below nought: in the state that an accepted call is lent none is, nor in the state that it or a later one writes,
  pub none_below_next : {s t : List ℤ} {a b : ℤ} → Calls bed n dx s t a b → NoneBelow bed s n → NoneBelow bed t n
  none_below_next k d = chain_keeps (AStep bed n dx) (λ t. NoneBelow bed t n)
      (λ s m w v o ok. one_written bed n dx o.0 s m w v o.1) (chain bed n dx k) d

  module _ (s : List ℤ) (a : Answer) (w v : ℤ) (old m : List ℤ) (e : volumes a ≡ both w v) (c : Called bed n dx s a old m) where
    pub none_below_now : NoneBelow bed s n
    none_below_now = one_now bed n dx (call_of (lent c)) s m w v (one bed n dx s a w v old m e c)

    pub none_below_written : NoneBelow bed m n
    none_below_written = one_written bed n dx (call_of (lent c)) s m w v (one bed n dx s a w v old m e c)

  abbrev Over : List ℤ → ℕ → Type 0
  Over t k = NoneBelow bed t k × Excess bed t k

  -- and no call is refused because one would have been: after an 8 some value is too large, and every depth at or above nought
  pub eight_too_large : (s : List ℤ) (a : Answer) (old new : List ℤ) (c : Called bed n dx s a old new) → code a ≡ 8
      → (NoneBelow bed (stage_table (lent c)) n × Excess bed (stage_table (lent c)) n)
      ⊎ (NoneBelow bed (filled (lent c)) n × Excess bed (filled (lent c)) n)
  unfolding stage_table filled
  eight_too_large s a old new c e = let l = lent c in
      subst (λ (k : ℕ). Over (stage_table l) k ⊎ Over (filled l) k) c.given.cells (⊎_elim
      (λ h. inl (both_of (stage_one (reach_of l) (call_of (lent c)) (state_of l)) h))
      (λ h. inr (both_of (next (reach_of l) (call_of (lent c)) (state_of l)) h))
      (eight (reach_of l) lawful (call_of (lent c)) (state_of l) (refused_later l c.gave e)))
    where
      both_of : (t : State) → Large (reach_of (lent c)) t → let k = length c.given.friction in Over (table_of k t) k
      both_of t h = let k = length c.given.friction in (none_below_table bed k dx t h.wet, excess_table bed k dx t h)

  -- a lake at rest into which no water is brought keeps every number of its table, and nothing crosses its ends
  pub lake_rests : {s t : List ℤ} {a b : ℤ} (k : Calls bed n dx s t a b) → NoInflow k → Lake bed s n
      → (t ≡ s) × (a ≡ pos 0) × (b ≡ pos 0)
  lake_rests k d lake = chain_still (ShutStep bed n dx) (λ t. Lake bed t n)
      (λ s m w v o. one_rests bed n dx o.0 s m w v o.2 o.1) (shut_chain bed n dx k d) lake

-- ---- E9: the same reach, surveyed from the other end
-- a call turned round has its cells, bed and friction from the last to the first, its level slopes and discharge means with their signs
-- changed, and its ends exchanged; turned round twice, one whose lengths fit is as it was,
pub turned_twice : (l : Lent) → misfits l ≡ false → turned_call (turned_call l) ≡ l
turned_twice l fit = call_twice l fit

-- its state has the cells of the other from the last to the first, as a caller sees them,
pub turned_columns : (n : ℕ) (t : List ℤ) (i : ℕ) → i < n → let far = turned_table n t in let j = n - suc i in
    (level far n i ≡ level t n j) × (level_slope far n i ≡ neg_ℤ (level_slope t n j))
    × (discharge far n i ≡ neg_ℤ (discharge t n j)) × (discharge_slope far n i ≡ discharge_slope t n j)
unfolding turned_table
turned_columns n t i l = let e = cell_in_table n (λ k. turned_cell (cell_in n t (n - suc k))) i l in
    (ap (λ (x : Cell). x.e0) e, ap (λ (x : Cell). x.e1) e, ap (λ (x : Cell). x.q0) e, ap (λ (x : Cell). x.q1) e)

-- and it can be lent, as its numbers are i32 too, where no level slope and no discharge mean is -2^31,
pub turned_lendable : (l : Lent) → misfits l ≡ false → FitsI32 l.now → NoneLeast l.now (cells_of l) → FitsI32 (turned_call l).now
turned_lendable l fit words ok = let size = (fitted (length l.now) l.room (length l.bed) (cells_of l) fit).now in
    turned_fits (cells_of l) l.now size words ok

-- as it is of every call that is accepted
pub accepted_turnable : (l : Lent) (a : Answer) (old new : List ℤ) → Gives (step_of l) a old new → code a ≡ 0
    → NoneLeast l.now (cells_of l)
accepted_turnable l a old new g e = accepted_none_least l (sym (coded l g) ∙ e)

-- it gives the same number, and when it is refused its place is the lowest from there;
pub turned_number : (l : Lent) → misfits l ≡ false → (a b : Answer) (old new old' new' : List ℤ) → Gives (step_of l) a old new
    → Gives (step_of (turned_call l)) b old' new' → (code b ≡ code a) × (0 < code a → placed b ≡ place (turned_call l))
turned_number l fit a b old new old' new' g h =
    let same = coded (turned_call l) h ∙ number_turned l fit ∙ sym (coded l g) in
    (same, λ some. refused_place (turned_call l) h (subst (λ (k : ℕ). 0 < k) (sym same) some))

-- and when it is accepted its table is the turned one, and its volumes are exchanged with their signs changed;
pub turned_accepted : (l : Lent) (a b : Answer) (w v : ℤ) (old new old' new' : List ℤ) → volumes a ≡ both w v → Gives (step_of l) a old new
    → Gives (step_of (turned_call l)) b old' new' → (volumes b ≡ both (neg_ℤ v) (neg_ℤ w)) × (new' ≡ turned_table (cells_of l) new)
unfolding volumes
turned_accepted l a b w v old new old' new' e g h =
    let there = other_gives l a w v old new e g old' in (ap volumes (one_answer h there), one_table h there)

-- and so it is over any number of accepted calls, each turned round
pub turned_calls : {bed : List ℤ} {n dx : ℕ} {s t : List ℤ} {a b : ℤ} (k : Calls bed n dx s t a b) → FromOtherEnd k
turned_calls k = other_run k
