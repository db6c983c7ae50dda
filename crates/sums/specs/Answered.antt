-- The answers of the calls, by what the rules say they give.
-- Assumes nothing.
use Rattle.std.specs.Prelude.{◌≡◌, refl, false, List, ℕ, ◌≤◌, eqb, length, ℤ, Ok, Err}
use Rattle.std.proofs.Common.{sym, ◌∙◌, ap, subst, arith, eqb-true}
use Rattle.std.proofs.lemmas.Bool.{eqb-false}
use Rattle.whole.specs.Flags.{by}
use Rattle.rules.specs.Lent.{Lent, cells_of, number, filled, Outcome, refused, accepted, step_of}
use Rattle.rules.specs.StateAndBed.{cells_over}
use Rattle.rules.specs.Sums.{sums_of, misfit_sums, Making, unmade, made, Reading, answered, between_of, keeping_of, sums_after}
use Rattle.rules.proofs.Laws.Lengths.{accepts, refuses}
use Rattle.rules.specs.Laws.StateAndBed.{StateFits}
use Rattle.rules.proofs.Laws.StateAndBed.{state_fits, state_passed}
use Rattle.rules.proofs.Laws.Written.{cells_over_lem, written_passes}
use Rattle.rules.proofs.Laws.Questions.{as_many, answered_asked}
use Rattle.rules.proofs.Laws.Sums.{few_cells, few_blocks}
use Rattle.reach.specs.declared.answer.Refusal.{Refusal}
use Rattle.reach.specs.declared.answer.Refusal.TheVariants as refusal
use Rattle.reach.specs.declared.answer.Refused.{Refused}
use Rattle.reach.specs.declared.answer.Volumes.{Volumes}
use Rattle.reach.specs.Refusals.{number_of}
use Rattle.reach.specs.Gives.{Answer, refusal_of, code, Gives, answer, number_in, leaves, answer_refused}
use Rattle.sums.specs.Gives.{Made, made_answer, made_number, made_leaves, MakingGives, asked, KeepingGives}
use Rattle.sums.specs.Ranges.{TablesFit, DepthsIn}
use Rattle.sums.specs.declared.Water.{Water}

-- tables whose lengths pass their checks fit each other
pub tables_fit : (bed t sums : List ℤ) → StateFits (length t) (cells_over bed) → misfit_sums (length sums) (cells_over bed) ≡ false
    → TablesFit bed t sums
tables_fit bed t sums f e = record {
  some = f.some;
  most = f.most;
  state = f.state;
  blocks = as_many (length sums) (cells_over bed) e;
}

-- ---- making
-- a refusal is the one that has its number
own_refusal : (k : Refusal) → ◌≡◌ {A = Made} (Err k) (Err (refusal_of (number_of k)))
unfolding answer
own_refusal k =
    let same = answer_refused (record { refusal = k; place = 0 }) in
    let one : ◌≡◌ {A = Refused} (record { refusal = k; place = 0 }) (record { refusal = refusal_of (number_of k); place = 0 }) = cc in
    ap (λ (r : Refused). Err r.refusal) one

pub made_none : {m : Making} (k : Refusal) → m ≡ unmade (number_of k) → (old : List ℤ) → MakingGives m (Err k) old old
unfolding made_answer made_number made_leaves
made_none k e old = record {
  says = own_refusal k ∙ sym (ap made_answer e);
  number = sym (ap made_number e);
  table = sym (ap (λ (x : Making). made_leaves x old) e);
}

pub made_all : {m : Making} {t : List ℤ} → m ≡ made t → (old new : List ℤ) → new ≡ t → MakingGives m (Ok tt) old new
unfolding made_answer made_number made_leaves
made_all e old new is = record {
  says = sym (ap made_answer e);
  number = sym (ap made_number e);
  table = is ∙ sym (ap (λ (x : Making). made_leaves x old) e);
}

-- ---- a question
-- an answer by its three numbers
pub asked_read : (r : Reading) (x : Water) → x.depth ≡ r.water → x.cells ≡ r.cells → x.blocks ≡ r.blocks → asked (Ok x) ≡ answered r
unfolding asked
asked_read r x p q s = λ i. answered (record { water = p i; cells = q i; blocks = s i })

-- an answer has read few cells, and no more blocks than the longest reach has
pub asked_few : (bed t sums : List ℤ) (a b : ℕ) (x : Water) → asked (Ok x) ≡ between_of bed t sums a b → (x.cells ≤ 30) × (x.blocks ≤ 64)
unfolding asked
asked_few bed t sums a b x e =
    let r : Reading = record { water = x.depth; cells = x.cells; blocks = x.blocks } in
    let q = answered_asked bed t sums a b r (sym e) in
    let most = (state_fits (length t) (cells_over bed) q.state_fits).most in (
      subst (λ (y : Reading). y.cells ≤ 30) (sym q.is) (few_cells bed t sums a b q.ordered q.inside),
      subst (λ (y : Reading). y.blocks ≤ 64) (sym q.is) (few_blocks bed t sums a b q.ordered q.inside most),
    )

-- ---- the step that keeps the sums
never : {e : Refused} {v : Volumes} {P : Type 0} → ◌≡◌ {A = Answer} (Err e) (Ok v) → P
never d = let z : ◌≡◌ {A = ℕ} 0 1 = cc in let f : ⊥ = omega arith in absurd f

-- an accepted step has written a state in range
accepted_filled : (l : Lent) {old new : List ℤ} (v : Volumes) → Gives (step_of l) (Ok v) old new → (number l ≡ 0) × (new ≡ filled l)
unfolding answer leaves
accepted_filled l {old} v g = by (eqb (number l) 0)
    (λ b. let e = eqb-true (number l) 0 b in (e, g.table ∙ ap (λ (o : Outcome). leaves o old) (accepts l e)))
    (λ b. never (sym (g.says ∙ ap answer (refuses l (eqb-false (number l) 0 b)))))

pub keeping_ready : (l : Lent) {a : Answer} (old new sums : List ℤ) (v : Volumes) → Gives (step_of l) a old new → a ≡ Ok v
    → misfit_sums (length sums) (cells_of l) ≡ false → TablesFit l.bed new sums × DepthsIn l.bed new
keeping_ready l old new sums v gave e fit =
    let z = accepted_filled l v (subst (λ (x : Answer). Gives (step_of l) x old new) e gave) in
    let n = cells_over_lem l z.0 in
    let ok = state_passed l.bed new (rw z.1 (written_passes l z.0)) in
    (tables_fit l.bed new sums ok.0 (rw n fit), ok.1)

module _ (l : Lent) (old new sums : List ℤ) where
  -- one whose sums do not fit
  pub keeping_none : keeping_of l (length sums) ≡ refused 1 0
      → KeepingGives l (Err (record { refusal = refusal.Lengths; place = 0 })) old old sums sums
  unfolding code answer refusal_of number_in leaves sums_after
  keeping_none e = record {
    step = record {
      says = sym (ap answer e);
      number = sym (ap number_in e);
      table = sym (ap (λ (o : Outcome). leaves o old) e);
    };
    kept = sym (ap (λ (o : Outcome). sums_after l.bed o sums) e);
  }

  module _ {a : Answer} (is : keeping_of l (length sums) ≡ step_of l) (gave : Gives (step_of l) a old new) where
    -- the step's own answer and table
    same_step : Gives (keeping_of l (length sums)) a old new
    same_step = subst (λ (o : Outcome). Gives o a old new) (sym is) gave

    -- one that is refused leaves the sums,
    pub keeping_refused : (k : Refused) → a ≡ Err k → KeepingGives l (Err k) old new sums sums
    unfolding answer sums_after
    keeping_refused k e = record {
      step = subst (λ (x : Answer). Gives (keeping_of l (length sums)) x old new) e same_step;
      kept = left (keeping_of l (length sums)) (sym e ∙ same_step.says);
    }
      where
        left : (o : Outcome) → ◌≡◌ {A = Answer} (Err k) (answer o) → sums ≡ sums_after l.bed o sums
        left (refused m q) d = refl
        left (accepted t w v) d = never d

    -- one that is accepted those of the new state
    pub keeping_accepted : (v : Volumes) → a ≡ Ok v → (after : List ℤ) → after ≡ sums_of l.bed new
        → KeepingGives l (Ok v) old new sums after
    unfolding answer leaves sums_after
    keeping_accepted v e after new-sums = record {
      step = subst (λ (x : Answer). Gives (keeping_of l (length sums)) x old new) e same_step;
      kept = new-sums ∙ left (keeping_of l (length sums)) (sym e ∙ same_step.says) same_step.table;
    }
      where
        left : (o : Outcome) → ◌≡◌ {A = Answer} (Ok v) (answer o) → new ≡ leaves o old → sums_of l.bed new ≡ sums_after l.bed o sums
        left (refused m q) d f = never (sym d)
        left (accepted t x y) d f = ap (sums_of l.bed) f
