-- The same demands, said of what an editor calls: `bassoonsun_step`, and one answer of every call from C.
--
-- A statement here has the name of the one in `Promises` that it is had from. r is the number that the call gives, vs and vs' are the two
-- volumes before and after it, ps and ps' the place; a caller in C lends two volumes and one place.
-- Assumes nothing.
use Rattle.std.specs.Prelude.{◌≡◌, refl, false, List, ◌⊎◌, ℕ, ◌≤◌, ◌<◌, length, get_or, ℤ, pos, neg_ℤ, ◌+ℤ◌, ◌-ℤ◌, ◌≤ℤ◌, Float}
use Rattle.std.proofs.Common.{sym, ◌∙◌, ap, subst}
use Rattle.whole.specs.Choice.{size_z}
use Rattle.rules.specs.Refusals.{applies, Clear}
use Rattle.rules.specs.Lent.{Lent, cells_of, misfits, filled, crossed, step_of}
use Rattle.survey.specs.Turned.{turned_table, turned_call}
use Rattle.face.specs.Given.{side, face_given}
use Rattle.step.specs.Gives.{Answer, placed, volumes, both, answer}
use Rattle.editor.specs.Told as told
use Rattle.editor.specs.Told.{StepTold, FaceTold, DoubleTold, RootTold}
use Rattle.promises.specs.Seen.{all_checks, check_five, FirstMet, FirstMetAt, at, discharge, discharge_slope, mean_depth}
use Rattle.promises.specs.Seen.{NoneBelow, Excess, stage_table, water, Listed, most_passed, brought, Lake}
use Rattle.promises.specs.Seen.{lending, Called, Calls, none, more, NoInflow, CalledFromC, CallsFromC, none_c, more_c, NoneComesIn}
use Rattle.promises.specs.ToldAnswers.{gave, onto, over, place_is, volumes_kept, volumes_are, volumes_told}
use Rattle.promises.proofs.Promises as page

-- ---- demand 1: one number, and one content of each lent table, of every call from C
pub step_one : (l : Lent) {r r' : ℕ} {old new new' vs v v' : List ℤ} {ps p p' : List ℕ}
    → StepTold (step_of l) r old new vs v ps p → StepTold (step_of l) r' old new' vs v' ps p' → (r ≡ r') × (new ≡ new') × (v ≡ v') × (p ≡ p')
step_one l x y = told.step_one x y

pub face_one : (hl ul hr ur : ℤ) {r r' : ℕ} {old new new' : List ℤ} → FaceTold (face_given (side hl ul) (side hr ur)) r old new
    → FaceTold (face_given (side hl ul) (side hr ur)) r' old new' → (r ≡ r') × (new ≡ new')
face_one hl ul hr ur x y = told.face_one x y

pub double_one : {hl ul hr ur : Float} {r r' : ℕ} {old new new' : List Float} → DoubleTold hl ul hr ur r old new
    → DoubleTold hl ul hr ur r' old new' → (r ≡ r') × (new ≡ new')
double_one x y = told.double_one x y

pub root_one : {x : Float} {r r' : ℕ} {old new new' : List Float} → RootTold x r old new → RootTold x r' old new' → (r ≡ r') × (new ≡ new')
root_one x y = told.root_one x y

module _ (l : Lent) {r : ℕ} {old new vs vs' : List ℤ} {ps ps' : List ℕ} (g : StepTold (step_of l) r old new vs vs' ps ps') where
  abbrev said : Answer
  said = answer (step_of l)

  -- ---- demand 1: refused with k exactly when a check numbered k is the first one met, a number from 1 to 8;
  pub refused_first : 0 < r → FirstMet r (all_checks l)
  refused_first some = onto g (λ k. FirstMet k (all_checks l)) (page.refused_first l said old new (gave g) (over g (λ k. 0 < k) some))

  pub first_refused : (k : ℕ) → FirstMet k (all_checks l) → r ≡ k
  first_refused k f = onto g (λ m. m ≡ k) (page.first_refused l said old new (gave g) k f)

  pub refused_listed : r < 9
  refused_listed = onto g (λ k. k < 9) (page.refused_listed l said old new (gave g))

  -- the table and the volumes then hold what they held;
  pub refused_untouched : 0 < r → (new ≡ old) × (vs' ≡ vs)
  refused_untouched some = ((page.refused_untouched l said old new (gave g) (over g (λ m. 0 < m) some)).0, volumes_kept g some)

  -- the place is the lowest at which it is met, 0 for a 1, for a 2 and when the call is accepted, and never past the last face;
  pub refused_at : length ps ≡ 1 → 0 < r → FirstMetAt r (get_or ps' 0 0) (all_checks l)
  refused_at one some = subst (λ (p : ℕ). FirstMetAt r p (all_checks l)) (sym (place_is g one))
      (onto g (λ k. FirstMetAt k (placed said) (all_checks l)) (page.refused_at l said old new (gave g) (over g (λ k. 0 < k) some)))

  pub at_refused : length ps ≡ 1 → (k p : ℕ) → FirstMetAt k p (all_checks l) → (r ≡ k) × (get_or ps' 0 0 ≡ p)
  at_refused one k p f = let is = page.at_refused l said old new (gave g) k p f in (onto g (λ m. m ≡ k) is.0, place_is g one ∙ is.1)

  pub refused_whole : length ps ≡ 1 → r ≤ 2 → get_or ps' 0 0 ≡ 0
  refused_whole one few = place_is g one ∙ page.refused_whole l said old new (gave g) (over g (λ k. k ≤ 2) few)

  pub refused_within : length ps ≡ 1 → get_or ps' 0 0 ≤ cells_of l
  refused_within one = subst (λ (p : ℕ). p ≤ cells_of l) (sym (place_is g one)) (page.refused_within l said old new (gave g))

  -- and accepted exactly when none is met
  pub accepted_clear : r ≡ 0 → Clear (all_checks l)
  accepted_clear e = page.accepted_clear l said old new (gave g) (over g (λ k. k ≡ 0) e)

  pub clear_accepted : Clear (all_checks l) → r ≡ 0
  clear_accepted k = onto g (λ m. m ≡ 0) (page.clear_accepted l said old new (gave g) k)

  -- ---- demand 2: the table and the volumes of an accepted call are those of the rules' two stages, number for number
  rules : r ≡ 0 → (new ≡ filled l) × (volumes said ≡ both (crossed l 0) (crossed l (cells_of l)))
  rules e = page.accepted_rules l said old new (gave g) (over g (λ m. m ≡ 0) e)

  pub accepted_rules : length vs ≡ 2 → r ≡ 0 → (new ≡ filled l) × (at vs' 0 ≡ crossed l 0) × (at vs' 1 ≡ crossed l (cells_of l))
  accepted_rules two e = let k = rules e in let v = volumes_are g two (crossed l 0) (crossed l (cells_of l)) k.1 in (k.0, v.0, v.1)

  -- the dry depth is each call's own: what an accepted one writes has no discharge where it is no deeper
  pub shallow_calm : r ≡ 0 → (i : ℕ) → i < cells_of l → mean_depth l.bed new (cells_of l) i ≤ℤ pos l.dry
      → (discharge new (cells_of l) i ≡ pos 0) × (discharge_slope new (cells_of l) i ≡ pos 0)
  shallow_calm e i m d = page.shallow_calm l said old new (gave g) (over g (λ k. k ≡ 0) e) i m d

  -- the ends of an accepted call are in their lists;
  pub ends_listed : r ≡ 0 → Listed l.left × Listed l.right
  ends_listed e = page.ends_listed l said (crossed l 0) (crossed l (cells_of l)) old new (rules e).1 (gave g)

  -- nothing crosses a wall, at an inflow Q·dt/dx comes in, and at a wall or an open end no more than 131,072 passes either way
  module _ (two : length vs ≡ 2) (e : r ≡ 0) where
    pub wrote : volumes said ≡ both (at vs' 0) (at vs' 1)
    wrote = volumes_told g two (crossed l 0) (crossed l (cells_of l)) (rules e).1

    pub left_wall : l.left.kind ≡ 0 → at vs' 0 ≡ pos 0
    left_wall k = page.left_wall l said (at vs' 0) (at vs' 1) old new wrote (gave g) k

    pub right_wall : l.right.kind ≡ 0 → at vs' 1 ≡ pos 0
    right_wall k = page.right_wall l said (at vs' 0) (at vs' 1) old new wrote (gave g) k

    pub left_inflow : l.left.kind ≡ 2 → at vs' 0 ≡ brought l l.left
    left_inflow k = page.left_inflow l said (at vs' 0) (at vs' 1) old new wrote (gave g) k

    pub right_inflow : l.right.kind ≡ 2 → at vs' 1 ≡ neg_ℤ (brought l l.right)
    right_inflow k = page.right_inflow l said (at vs' 0) (at vs' 1) old new wrote (gave g) k

    pub left_within : (l.left.kind ≡ 2 → ⊥) → size_z (at vs' 0) ≤ℤ most_passed
    left_within k = page.left_within l said (at vs' 0) (at vs' 1) old new wrote (gave g) k

    pub right_within : (l.right.kind ≡ 2 → ⊥) → size_z (at vs' 1) ≤ℤ most_passed
    right_within k = page.right_within l said (at vs' 0) (at vs' 1) old new wrote (gave g) k

  -- ---- demand 3, of any call (that no depth is below nought in a stage that it reaches is said of what is lent, in `Promises`): what an
  -- accepted one wrote passes check 5 when it is lent again on that bed
  pub lent_again : r ≡ 0 → (m : Lent) → m.now ≡ new → m.bed ≡ l.bed → cells_of m ≡ cells_of l → applies (check_five m) ≡ false
  lent_again e m now bed cells = page.lent_again l said old new (gave g) (over g (λ k. k ≡ 0) e) m now bed cells

  -- so no call that is lent it gives a 5
  pub never_five : r ≡ 0 → (m : Lent) → m.now ≡ new → m.bed ≡ l.bed → cells_of m ≡ cells_of l → {r' : ℕ} {old' new' us us' : List ℤ}
      {qs qs' : List ℕ} → StepTold (step_of m) r' old' new' us us' qs qs' → r' ≡ 5 → ⊥
  never_five e m now bed cells {old' = old'} {new' = new'} h five =
      page.never_five l said old new (gave g) (over g (λ k. k ≡ 0) e) m now bed cells (answer (step_of m)) old' new'
      (gave h) (over h (λ k. k ≡ 5) five)

  -- a lake at rest into which no water is brought can, where what is lent passes 1 to 5, be refused by 7 alone
  pub lake_seven : Lake l.bed l.now (cells_of l) → l.left.q ≡ 0 → l.right.q ≡ 0 → 5 < r → r ≡ 7
  lake_seven lake left right high =
      onto g (λ k. k ≡ 7) (page.lake_seven l said old new (gave g) lake left right (over g (λ k. 5 < k) high))

  -- ---- E9: a call turned round gives the same number, and when it is accepted the turned table and the volumes exchanged, with their
  -- signs changed
  module _ (fit : misfits l ≡ false) {r' : ℕ} {old' new' us us' : List ℤ} {qs qs' : List ℕ}
      (h : StepTold (step_of (turned_call l)) r' old' new' us us' qs qs') where
    abbrev said_there : Answer
    said_there = answer (step_of (turned_call l))

    pub turned_number : r' ≡ r
    turned_number = h.number ∙ (page.turned_number l fit said said_there old new old' new' (gave g) (gave h)).0 ∙ sym g.number

    pub turned_accepted : length vs ≡ 2 → length us ≡ 2 → r ≡ 0
        → (new' ≡ turned_table (cells_of l) new) × (at us' 0 ≡ neg_ℤ (at vs' 1)) × (at us' 1 ≡ neg_ℤ (at vs' 0))
    turned_accepted two two' e =
        let w = crossed l 0 in let v = crossed l (cells_of l) in
        let is = (rules e).1 in let here = volumes_are g two w v is in
        let turned = page.turned_accepted l said said_there w v old new old' new' is (gave g) (gave h) in
        let far = volumes_are h two' (neg_ℤ v) (neg_ℤ w) turned.0 in
        (turned.1, far.0 ∙ sym (ap neg_ℤ here.1), far.1 ∙ sym (ap neg_ℤ here.0))

-- ---- demand 3, over any number of calls that gave 0, on one bed with n cells of length dx
module _ {bed : List ℤ} {n dx : ℕ} where
  -- they are calls of `step`, with the volumes that they wrote
  abbrev called : {s : List ℤ} {r : ℕ} {old m vs vs' : List ℤ} {ps ps' : List ℕ} (c : CalledFromC bed n dx s r old m vs vs' ps ps')
      → Called bed n dx s (answer (step_of (lending bed dx s (length old) c.given))) old m
  called c = record { given = c.given; gave = gave c.told }

  calls : {s t : List ℤ} {a b : ℤ} → CallsFromC bed n dx s t a b → Calls bed n dx s t a b
  calls (none_c t) = none t
  calls (more_c s m t old vs vs' ps ps' a b two c k) =
      let l = lending bed dx s (length old) c.given in
      more s m t old (answer (step_of l)) (at vs' 0) (at vs' 1) a b (wrote l c.told two refl) (called c) (calls k)

  -- the water balances with what they left in the two volumes, to the unit
  pub water_balances : {s t : List ℤ} {a b : ℤ} → CallsFromC bed n dx s t a b → water bed t n ≡ water bed s n +ℤ a -ℤ b
  water_balances k = page.water_balances bed n dx (calls k)

  -- no depth falls below nought: in what is lent to a call that gives 0 none is, nor in what it or a later one writes,
  module _ {s old m vs vs' : List ℤ} {ps ps' : List ℕ} (two : length vs ≡ 2) (c : CalledFromC bed n dx s 0 old m vs vs' ps ps') where
    abbrev l : Lent
    l = lending bed dx s (length old) c.given

    pub none_below_now : NoneBelow bed s n
    none_below_now =
        page.none_below_now bed n dx s (answer (step_of l)) (at vs' 0) (at vs' 1) old m (wrote l c.told two refl) (called c)

    pub none_below_written : NoneBelow bed m n
    none_below_written =
        page.none_below_written bed n dx s (answer (step_of l)) (at vs' 0) (at vs' 1) old m (wrote l c.told two refl) (called c)

  pub none_below_next : {s t : List ℤ} {a b : ℤ} → CallsFromC bed n dx s t a b → NoneBelow bed s n → NoneBelow bed t n
  none_below_next k d = page.none_below_next bed n dx (calls k) d

  -- and no call gives an 8 because one would have
  pub eight_too_large : {s old m vs vs' : List ℤ} {ps ps' : List ℕ} (c : CalledFromC bed n dx s 8 old m vs vs' ps ps')
      → let l = lending bed dx s (length old) c.given in
      (NoneBelow bed (stage_table l) n × Excess bed (stage_table l) n) ⊎ (NoneBelow bed (filled l) n × Excess bed (filled l) n)
  eight_too_large {s} {old} {m} c =
      page.eight_too_large bed n dx s (answer (step_of (lending bed dx s (length old) c.given))) old m (called c) (sym c.told.number)

  -- a lake at rest into which no water is brought keeps every number of its table, and nothing crosses its ends
  none_comes_in : {s t : List ℤ} {a b : ℤ} (k : CallsFromC bed n dx s t a b) → NoneComesIn k → NoInflow (calls k)
  unfolding calls
  none_comes_in (none_c t) d = tt
  none_comes_in (more_c s m t old vs vs' ps ps' a b two c k) d = (d.0, d.1, none_comes_in k d.2)

  pub lake_rests : {s t : List ℤ} {a b : ℤ} (k : CallsFromC bed n dx s t a b) → NoneComesIn k → Lake bed s n
      → (t ≡ s) × (a ≡ pos 0) × (b ≡ pos 0)
  lake_rests k d lake = page.lake_rests bed n dx (calls k) (none_comes_in k d) lake
