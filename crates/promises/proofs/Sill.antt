-- E10, the reach over a stepped bed: the three demands, said of the calls themselves.
--
-- `Called` and `Calls` (in `SeenSill`) are calls of this reach's step as a caller sees them. Its contract leaves one answer and one table,
-- those of its rules, so what follows is said of that step, and of no other.
-- Assumes nothing.
use Rattle.std.specs.Prelude.{◌≡◌, false, List, [], ◌∷◌, ◌++◌, ℕ, ◌≤◌, ◌<◌, ℤ, pos, ◌+ℤ◌, ◌-ℤ◌, ◌≤ℤ◌}
use Rattle.std.proofs.Math.Path.{refl, subst}
use Rattle.std.proofs.Common.{sym, ◌∙◌, arith}
use Rattle.whole.specs.Flags.{clash}
use Rattle.whole.specs.Choice.{size_z}
use Rattle.tables.specs.Some.{IsLowest}
use Rattle.rules.specs.Refusals.{each, applies, Clear}
use Rattle.rules.proofs.Laws.Chain.{chain_balanced, chain_keeps, chain_still}
use Rattle.rules.proofs.Laws.Face.{lawful}
use Rattle.sill_rules.specs.Step.{next}
use Rattle.sill_rules.specs.Refusals.{off, early, checks}
use Rattle.sill_rules.specs.Lent.{Lent, cells_of, reach_of, call_of, state_of, all_checks, filled, crossed, step_of}
use Rattle.sill_rules.proofs.Laws.Within.{all_within}
use Rattle.sill_rules.proofs.Laws.Accepted.{reached_end, eight}
use Rattle.reach.specs.Gives.{Answer, code, placed, volumes, absent, both, Gives, one_answer, one_table}
use Rattle.promises.specs.Seen.{FirstMet, FirstMetAt, most_passed}
use Rattle.promises.specs.SeenSill.{to_end, check_five, fast_cell, discharge, depth, NoneBelow, Excess, water, Lake}
use Rattle.promises.specs.SeenSill.{Called, lent, AcceptedCall, Calls}
use Rattle.promises.specs.ByChecks as call
use Rattle.promises.specs.ByChecks.{Taken, taken}
use Rattle.promises.proofs.SillTables.{by_checks, all_listed, ones_whole, twos_whole, eight_later, five_applies, six_cell}
use Rattle.promises.proofs.SillTables.{lake_number, at_rest, none_below_table, excess_table, kinds_in, wall_left, wall_right}
use Rattle.promises.proofs.SillTables.{passed_left, passed_right, written_calm, again_in_range}
use Rattle.promises.proofs.SillTables.{one_balanced, one_now, one_written, one_rests}

-- ---- demand 1: one answer, one content of the table
pub step_answer : (l : Lent) {a b : Answer} {old new new' : List ℤ} → Gives (step_of l) a old new → Gives (step_of l) b old new' → a ≡ b
step_answer l p q = one_answer p q

pub step_table : (l : Lent) {a b : Answer} {old new new' : List ℤ} → Gives (step_of l) a old new → Gives (step_of l) b old new' → new ≡ new'
step_table l p q = one_table p q

-- ---- the answer, by its number, its place and its volumes (`code`, `placed`, `volumes`)
module _ (l : Lent) (a : Answer) (old new : List ℤ) (g : Gives (step_of l) a old new) where
  -- a call is refused with k exactly when a check numbered k is the first one met,
  pub refused_first : 0 < code a → FirstMet (code a) (all_checks l)
  refused_first some = call.refused_first (by_checks l g) some

  pub first_refused : (k : ℕ) → FirstMet k (all_checks l) → code a ≡ k
  first_refused k f = call.first_refused (by_checks l g) k f

  -- a number from 1 to 8; the table is then what it was, and there are no volumes
  pub refused_listed : code a < 9
  refused_listed = call.refused_listed (by_checks l g) (all_listed l)

  pub refused_untouched : 0 < code a → (new ≡ old) × (volumes a ≡ absent)
  refused_untouched some = call.refused_untouched (by_checks l g) some

  -- and at p exactly when p is below the number of places that this check has (bed values, cells, faces, or one for the call as a whole),
  -- its condition holds there, and at no lower one;
  pub refused_at : 0 < code a → FirstMetAt (code a) (placed a) (all_checks l)
  refused_at some = call.refused_at (by_checks l g) some

  pub at_refused : (k p : ℕ) → FirstMetAt k p (all_checks l) → (code a ≡ k) × (placed a ≡ p)
  at_refused k p f = call.at_refused (by_checks l g) (all_listed l) k p f

  -- for a 1 or a 2 that is 0, as it is when the call is accepted, and for none does it lie past the last face
  pub refused_whole : code a ≤ 2 → placed a ≡ 0
  refused_whole few = call.refused_whole (by_checks l g) (ones_whole l) (twos_whole l) few

  pub refused_within : placed a ≤ cells_of l
  refused_within = call.refused_within (by_checks l g) (cells_of l) (all_within l)

  -- of the two checks numbered 6 the second, that of the faces, is never the first one met: the place of a 6 is a cell, the lowest whose
  -- speed is too great for friction
  pub six_friction : code a ≡ 6 → IsLowest (fast_cell l) (cells_of l) (placed a)
  six_friction e =
      six_cell l (placed a) (subst (λ (k : ℕ). FirstMetAt k (placed a) (all_checks l)) e (refused_at (omega (arith, e))))

  -- it is accepted exactly when none is met
  pub accepted_clear : code a ≡ 0 → Clear (all_checks l)
  accepted_clear e = call.accepted_clear (by_checks l g) (all_listed l) e

  pub clear_accepted : Clear (all_checks l) → code a ≡ 0
  clear_accepted k = call.clear_accepted (by_checks l g) k

  -- ---- demand 2: an accepted call's table and volumes are those of the rules, number for number
  pub accepted_rules : code a ≡ 0 → (new ≡ filled l) × (volumes a ≡ both (crossed l 0) (crossed l (cells_of l)))
  accepted_rules e = (call.accepted_table (by_checks l g) e, call.accepted_volumes (by_checks l g) e)

-- an answer with volumes is that of an accepted call
pub volumes_accepted : (a : Answer) (w v : ℤ) → volumes a ≡ both w v → code a ≡ 0
volumes_accepted a w v e = call.volumes_code a w v e

-- ---- the dry depth is each call's own: what an accepted one writes has no discharge where it is no deeper
pub shallow_calm : (l : Lent) (a : Answer) (old new : List ℤ) → Gives (step_of l) a old new → code a ≡ 0 → (i : ℕ) → i < cells_of l
    → depth l.bed new (cells_of l) i ≤ℤ pos l.dry → discharge new (cells_of l) i ≡ pos 0
shallow_calm l a old new g e i m d = written_calm l (call.accepted_table (by_checks l g) e) i m d

-- ---- the ends of an accepted call, and what crosses them
module _ (l : Lent) (a : Answer) (w v : ℤ) (old new : List ℤ) (is : volumes a ≡ both w v) (g : Gives (step_of l) a old new) where
  went : Taken (all_checks l) (filled l) (crossed l 0) (crossed l (cells_of l)) w v new
  went = taken (by_checks l g) w v is

  -- each is a wall, 0, or open, 1
  pub ends_listed : (l.left ≤ 1) × (l.right ≤ 1)
  ends_listed = kinds_in l went.number

  -- nothing crosses a wall,
  pub left_wall : l.left ≡ 0 → w ≡ pos 0
  left_wall e = went.left ∙ wall_left l went.number e

  pub right_wall : l.right ≡ 0 → v ≡ pos 0
  right_wall e = went.right ∙ wall_right l went.number e

  -- and no more than 131,072 passes either end, either way
  pub left_within : size_z w ≤ℤ most_passed
  left_within = subst (λ (z : ℤ). size_z z ≤ℤ most_passed) (sym went.left) (passed_left l went.number)

  pub right_within : size_z v ≤ℤ most_passed
  right_within = subst (λ (z : ℤ). size_z z ≤ℤ most_passed) (sym went.right) (passed_right l went.number)

-- ---- demand 3, of any call
module _ (l : Lent) where
  -- no depth is below nought in an end state that a call reaches, whether it is refused there or accepted
  pub none_below_end : Clear (to_end l) → NoneBelow l.bed (filled l) (cells_of l)
  unfolding filled to_end
  none_below_end ok = none_below_table l.bed (cells_of l) l.dx (next (reach_of l) (call_of l) (state_of l))
      (reached_end (reach_of l) lawful (call_of l) (state_of l) ok.1)

  -- these are the checks before that of the end state
  pub in_order : all_checks l ≡ to_end l ++ each 8 (cells_of l) (off (reach_of l) (next (reach_of l) (call_of l) (state_of l))) ∷ []
  unfolding all_checks to_end checks early
  in_order = refl

  -- a lake at rest: where what is lent passes 1 to 5, it can be refused by 7 alone
  pub lake_seven : (a : Answer) (old new : List ℤ) → Gives (step_of l) a old new → Lake l.bed l.now (cells_of l)
      → 5 < code a → code a ≡ 7
  lake_seven a old new g lake high = let is = call.coded (by_checks l g) in
      is ∙ lake_number l (at_rest l.bed l.now (cells_of l) l.dx lake) (subst (λ (k : ℕ). 5 < k) is high)

-- what an accepted call wrote passes check 5 when it is lent again on that bed, so no call that is lent it gives a 5
module _ (l : Lent) (a : Answer) (old new : List ℤ) (g : Gives (step_of l) a old new) (e : code a ≡ 0) (m : Lent) (now : m.now ≡ new)
    (bed : m.bed ≡ l.bed) (cells : cells_of m ≡ cells_of l) where
  pub lent_again : applies (check_five m) ≡ false
  lent_again = let k = by_checks l g in again_in_range l (sym (call.coded k) ∙ e) m (now ∙ call.accepted_table k e) bed cells

  pub never_five : (b : Answer) (old' new' : List ℤ) → Gives (step_of m) b old' new' → code b ≡ 5 → ⊥
  never_five b old' new' h f = clash (sym lent_again ∙ five_applies m (sym (call.coded (by_checks m h)) ∙ f))

-- ---- demand 3, over any number of accepted calls on one bed with n cells of length dx; all else that they are given may differ
module _ (bed : List ℤ) (n dx : ℕ) where
  -- the water balances with what the ends bring and take, to the unit
  pub water_balances : {s t : List ℤ} {a b : ℤ} → Calls bed n dx s t a b → water bed t n ≡ water bed s n +ℤ a -ℤ b
  water_balances k = chain_balanced (AcceptedCall bed n dx) (λ t. water bed t n) (one_balanced bed n dx) k

  -- no depth falls below nought: in the state that an accepted call is lent none is, nor in the state that it or a later one writes,
  pub none_below_next : {s t : List ℤ} {a b : ℤ} → Calls bed n dx s t a b → NoneBelow bed s n → NoneBelow bed t n
  none_below_next k d =
      chain_keeps (AcceptedCall bed n dx) (λ t. NoneBelow bed t n) (λ s m w v c ok. one_written bed n dx s m w v c) k d

  module _ (s : List ℤ) (a : Answer) (w v : ℤ) (old m : List ℤ) (e : volumes a ≡ both w v) (c : Called bed n dx s a old m) where
    abbrev taking : AcceptedCall bed n dx s m w v
    taking = record { says = a; old = old; call = c; crossed = e }

    pub none_below_now : NoneBelow bed s n
    none_below_now = one_now bed n dx s m w v taking

    pub none_below_written : NoneBelow bed m n
    none_below_written = one_written bed n dx s m w v taking

  -- and no call is refused because one would have been: after an 8 some value is too large, and every depth at or above nought
  pub eight_too_large : (s : List ℤ) (a : Answer) (old new : List ℤ) (c : Called bed n dx s a old new) → code a ≡ 8
      → NoneBelow bed (filled (lent c)) n × Excess bed (filled (lent c)) n
  unfolding filled
  eight_too_large s a old new c e =
      let l = lent c in let end = next (reach_of l) (call_of l) (state_of l) in
      let large = eight (reach_of l) lawful (call_of l) (state_of l) (eight_later l (sym (call.coded (by_checks l c.gave)) ∙ e)) in
      subst (λ (k : ℕ). NoneBelow bed (filled l) k × Excess bed (filled l) k) c.given.cells
      (none_below_table bed (cells_of l) dx end large.wet, excess_table bed (cells_of l) dx end large)

  -- a lake at rest keeps every number of its table, and nothing crosses its ends
  pub lake_rests : {s t : List ℤ} {a b : ℤ} → Calls bed n dx s t a b → Lake bed s n → (t ≡ s) × (a ≡ pos 0) × (b ≡ pos 0)
  lake_rests k lake = chain_still (AcceptedCall bed n dx) (λ t. Lake bed t n) (one_rests bed n dx) k lake
