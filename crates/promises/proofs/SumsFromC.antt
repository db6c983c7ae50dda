-- The same, said of what an editor calls: `bassoonsun_sums`, `bassoonsun_between` and `bassoonsun_step_sums`.
--
-- A statement here has the name of the one in `Sums` that it is had from. r is the number that the call gives; a caller in C lends three
-- numbers for what a question tells.
-- Assumes nothing.
use Rattle.std.specs.Prelude.{◌≡◌, ℕ, ◌≤◌, ◌<◌, length, set, ℤ, pos, Ok, Err}
use Rattle.std.proofs.Math.Path.{refl, sym, ap}
use Rattle.std.proofs.Common.{◌∙◌, subst, arith, length-set, get_or-set_same, get_or-set_other}
use mathlib.Core.List.{List}
use Rattle.rules.specs.Lent.{Lent, cells_of, Outcome, step_of}
use Rattle.rules.specs.StateAndBed.{cells_over, misfit_state}
use Rattle.rules.specs.Sums.{blocks_of, sums_of, misfit_sums}
use Rattle.rules.specs.Sums.{Making, making_of, making_checks, Reading, reading, Question, unanswered, answered, between_of}
use Rattle.rules.specs.Sums.{question_checks, keeping_of}
use Rattle.rules.proofs.Laws.Questions.{sums_fit, kept_step}
use Rattle.rules.proofs.Laws.Questions.{disordered, unanswered_sums, unanswered_state, unanswered_faces, all_answered}
use Rattle.reach.specs.Refusals.{told_number}
use Rattle.reach.specs.Gives.{Answer, refusal_of, code, volumes, both, answer}
use Rattle.sums.specs.Gives.{Made, Amount, made_answer, MakingGives, asked, question_code, KeepingGives}
use Rattle.whole.specs.Flags.{by}
use Rattle.editor.specs.Told as told
use Rattle.editor.specs.Told.{StepTold, KeepingTold, MakingTold, reading_into, QuestionTold}
use Rattle.promises.specs.Seen.{at, FirstMet, water, lending}
use Rattle.promises.specs.SeenSums.{water_between, MadeFrom, by_making, CallsKeeping, none_kept, more_kept}
use Rattle.promises.specs.SeenSums.{CallsKeepingFromC, none_c, more_c}
use Rattle.promises.proofs.FromC.{wrote}
use Rattle.promises.specs.ToldAnswers as step-told
use Rattle.promises.proofs.Sums as page

-- ---- one number, and one content of each lent table
pub make_one : {m : Making} {r r' : ℕ} {old new new' : List ℤ} → MakingTold m r old new → MakingTold m r' old new'
    → (r ≡ r') × (new ≡ new')
make_one p q = told.making_one p q

pub between_one : {x : Question} {r r' : ℕ} {old new new' : List ℤ} → QuestionTold x r old new → QuestionTold x r' old new'
    → (r ≡ r') × (new ≡ new')
between_one p q = told.question_one p q

pub step_one : {l : Lent} {r r' : ℕ} {old new new' was sums sums' vs v v' : List ℤ} {ps p p' : List ℕ}
    → KeepingTold l r old new was sums vs v ps p → KeepingTold l r' old new' was sums' vs v' ps p'
    → (r ≡ r') × (new ≡ new') × (v ≡ v') × (p ≡ p') × (sums ≡ sums')
step_one p q = told.keeping_one p q

-- ---- making the sums
module _ (bed t : List ℤ) {r : ℕ} {old new : List ℤ} (g : MakingTold (making_of bed t (length old)) r old new) where
  abbrev said : Made
  said = made_answer (making_of bed t (length old))

  gave : MakingGives (making_of bed t (length old)) said old new
  gave = record { says = refl; number = page.own_making bed t (length old); table = g.table }

  onto : (P : ℕ → Type 0) → P (told_number said) → P r
  onto P x = subst P (page.own_making bed t (length old) ∙ sym g.number) x

  over : (P : ℕ → Type 0) → P r → P (told_number said)
  over P x = subst P (g.number ∙ sym (page.own_making bed t (length old))) x

  pub make_refused_first : 0 < r → FirstMet r (making_checks bed t (length old))
  make_refused_first some =
      onto (λ k. FirstMet k (making_checks bed t (length old))) (page.make_refused_first bed t gave (over (λ k. 0 < k) some))

  pub make_first_refused : (k : ℕ) → FirstMet k (making_checks bed t (length old)) → r ≡ k
  make_first_refused k f = onto (λ m. m ≡ k) (page.make_first_refused bed t gave k f)

  pub make_untouched : 0 < r → new ≡ old
  make_untouched some = page.make_untouched bed t gave (over (λ k. 0 < k) some)

  pub make_sums : r ≡ 0 → new ≡ sums_of bed t
  make_sums e = page.make_sums bed t gave (over (λ k. k ≡ 0) e)

  -- such a table is one made of the state
  pub made_from : r ≡ 0 → MadeFrom bed t new
  made_from e = by_making said old new gave (over (λ k. k ≡ 0) e)

-- ---- the step that keeps them
module _ (l : Lent) {r : ℕ} {old new was sums vs vs' : List ℤ} {ps ps' : List ℕ} (g : KeepingTold l r old new was sums vs vs' ps ps') where
  abbrev answers : Answer
  answers = answer (keeping_of l (length was))

  kept : KeepingGives l answers old new was sums
  kept = record { step = step-told.gave g.step; kept = g.kept }

  step_code : (P : ℕ → Type 0) → P r → P (code answers)
  step_code P x = step-told.over g.step P x

  pub step_misfit : (length was ≡ blocks_of (cells_of l) → ⊥) → (r ≡ 1) × (new ≡ old) × (sums ≡ was)
  step_misfit f = let z = page.step_misfit l kept f in (g.step.number ∙ z.0, z.2, z.3)

  -- with sums that fit it is `bassoonsun_step`, of which all that `FromC` says is said
  pub step_same : length was ≡ blocks_of (cells_of l) → StepTold (step_of l) r old new vs vs' ps ps'
  step_same e = subst (λ (o : Outcome). StepTold o r old new vs vs' ps ps')
      (kept_step l (length was) (sums_fit (length was) (cells_of l) e)) g.step

  pub step_untouched : 0 < r → (new ≡ old) × (sums ≡ was)
  step_untouched some = page.step_untouched l kept (step_code (λ k. 0 < k) some)

  pub step_sums : r ≡ 0 → sums ≡ sums_of l.bed new
  step_sums e = page.step_sums l kept (step_code (λ k. k ≡ 0) e)

  kept_volumes : length vs ≡ 2 → r ≡ 0 → volumes answers ≡ both (at vs' 0) (at vs' 1)
  kept_volumes two e =
      let fit = page.fitting l kept (step_code (λ k. k ≡ 0) e) in
      ap (λ (o : Outcome). volumes (answer o)) (kept_step l (length was) (sums_fit (length was) (cells_of l) fit))
      ∙ wrote l (step_same fit) two e

-- ---- a question
-- what it tells, as Rattle's answer: a refusal is a 1 or a 10
amount_of : Question → Amount
amount_of (unanswered k) = Err (refusal_of k)
amount_of (answered x) = Ok (record { depth = x.water; cells = x.cells; blocks = x.blocks })

amount_is : (bed t sums : List ℤ) (a b : ℕ) → asked (amount_of (between_of bed t sums a b)) ≡ between_of bed t sums a b
unfolding asked amount_of refusal_of
amount_is bed t sums a b = by (misfit_sums (length sums) (cells_over bed))
    (λ p. same (unanswered_sums bed t sums a b p) refl)
    (λ p. by (misfit_state (length t) (cells_over bed))
    (λ q. same (unanswered_state bed t sums a b p q) refl)
    (λ q. by (disordered bed t sums a b)
    (λ d. same (unanswered_faces bed t sums a b p q d) refl)
    (λ d. same (all_answered bed t sums a b p q d) refl)))
  where
    same : {q : Question} → between_of bed t sums a b ≡ q → asked (amount_of q) ≡ q
        → asked (amount_of (between_of bed t sums a b)) ≡ between_of bed t sums a b
    same e is = ap (λ (q : Question). asked (amount_of q)) e ∙ is ∙ sym e

-- what is written into the three numbers
into : (x : Reading) (old : List ℤ) → length old ≡ 3 → let new = reading_into (answered x) old in
    (at new 0 ≡ x.water) × (at new 1 ≡ pos x.cells) × (at new 2 ≡ pos x.blocks)
unfolding reading_into
into x old three =
    let one = set old 0 x.water in let two = set one 1 (pos x.cells) in
    let l1 = length-set old 0 x.water in let l2 = length-set one 1 (pos x.cells) in (
      get_or-set_other two 2 0 (pos x.blocks) (pos 0) (λ e. let z : ⊥ = omega arith in z)
          ∙ get_or-set_other one 1 0 (pos x.cells) (pos 0) (λ e. let z : ⊥ = omega arith in z)
          ∙ get_or-set_same old 0 x.water (pos 0) (omega arith),
      get_or-set_other two 2 1 (pos x.blocks) (pos 0) (λ e. let z : ⊥ = omega arith in z)
          ∙ get_or-set_same one 1 (pos x.cells) (pos 0) (omega arith),
      get_or-set_same two 2 (pos x.blocks) (pos 0) (omega arith),
    )

module _ (bed t sums : List ℤ) (a b : ℕ) {r : ℕ} {old new : List ℤ} (g : QuestionTold (between_of bed t sums a b) r old new) where
  abbrev tells : Amount
  tells = amount_of (between_of bed t sums a b)

  abbrev tells_is : asked tells ≡ between_of bed t sums a b
  tells_is = amount_is bed t sums a b

  number_is : r ≡ question_code (asked tells)
  number_is = g.number ∙ sym (ap question_code tells_is)

  pub question_refused_first : 0 < r → FirstMet r (question_checks bed t (length sums) a b)
  question_refused_first some = subst (λ (k : ℕ). FirstMet k (question_checks bed t (length sums) a b)) (sym number_is)
      (page.question_refused_first bed t sums a b tells tells_is (subst (λ (k : ℕ). 0 < k) number_is some))

  pub question_first_refused : (k : ℕ) → FirstMet k (question_checks bed t (length sums) a b) → r ≡ k
  question_first_refused k f = number_is ∙ page.question_first_refused bed t sums a b tells tells_is k f

  -- a refused one writes nothing
  pub question_untouched : 0 < r → new ≡ old
  unfolding question_code reading_into
  question_untouched some = g.reading ∙ by_case (between_of bed t sums a b) g.number
    where
      by_case : (q : Question) → r ≡ question_code q → reading_into q old ≡ old
      by_case (unanswered k) e = refl
      by_case (answered x) e = let z : ⊥ = omega (arith, e) in absurd z

  -- an answered one the reading, as the tables stand: at most 30 cells and 64 blocks
  pub question_read : length old ≡ 3 → r ≡ 0 → let x = reading bed t sums a b in
      (at new 0 ≡ x.water) × (at new 1 ≡ pos x.cells) × (at new 2 ≡ pos x.blocks) × (x.cells ≤ 30) × (x.blocks ≤ 64)
  question_read three e =
      let x = reading bed t sums a b in
      let read = page.question_answered bed t sums a b tells tells_is (sym number_is ∙ e) in
      let w = g.reading ∙ ap (λ (q : Question). reading_into q old) (sym tells_is ∙ read) in
      let z = into x old three in let few = page.question_few bed t sums a b tells tells_is x read in
      (rw w z.0, rw w z.1, rw w z.2, few.0, few.1)

  -- with the sums of the state it is answered whenever its faces are in order, and the first number is the water between them
  pub between_water : MadeFrom bed t sums → length old ≡ 3 → a ≤ b → b ≤ cells_over bed
      → (r ≡ 0) × (at new 0 ≡ water_between bed t (cells_over bed) a b)
  unfolding question_code
  between_water made three low high =
      let x = page.between_water made a b tells tells_is low high in let is = sym tells_is ∙ x.told in
      let w = g.reading ∙ ap (λ (q : Question). reading_into q old) is in
      (g.number ∙ ap question_code is, ap (λ (z : List ℤ). at z 0) w ∙ (into x.read old three).0 ∙ x.water)

-- of the whole reach it is that with which demand 3 balances
pub between_all : (bed t sums : List ℤ) {r : ℕ} {old new : List ℤ} → QuestionTold (between_of bed t sums 0 (cells_over bed)) r old new
    → MadeFrom bed t sums → length old ≡ 3 → (r ≡ 0) × (at new 0 ≡ water bed t (cells_over bed))
unfolding question_code
between_all bed t sums {old = old} g made three =
    let q = between_of bed t sums 0 (cells_over bed) in
    let told_is = amount_is bed t sums 0 (cells_over bed) in
    let x = page.between_all made (amount_of q) told_is in let is = sym told_is ∙ x.told in
    let w = g.reading ∙ ap (λ (y : Question). reading_into y old) is in
    (g.number ∙ ap question_code is, ap (λ (z : List ℤ). at z 0) w ∙ (into x.read old three).0 ∙ x.water)

-- ---- over any number of calls of `bassoonsun_step_sums` that gave 0
module _ {bed : List ℤ} {n dx : ℕ} where
  -- they are calls that keep the sums, with the volumes that they wrote,
  pub keeping_calls : {s t u z : List ℤ} {a b : ℤ} → CallsKeepingFromC bed n dx s t u z a b → CallsKeeping bed n dx s t u z a b
  keeping_calls (none_c t z) = none_kept t z
  keeping_calls (more_c s m t u y z old vs vs' ps ps' a b two c k) =
      let l = lending bed dx s (length old) c.given in
      more_kept s m t u y z old (answers l c.told) (at vs' 0) (at vs' 1) a b (kept_volumes l c.told two refl)
      (record { given = c.given; gave = kept l c.told }) (keeping_calls k)

  -- and the table stays the one that `bassoonsun_sums` would make
  pub stays_made : {s t u z : List ℤ} {a b : ℤ} → CallsKeepingFromC bed n dx s t u z a b → MadeFrom bed s u
      → {r : ℕ} {old new : List ℤ} → length old ≡ length z → MakingTold (making_of bed t (length old)) r old new → (r ≡ 0) × (new ≡ z)
  stays_made {t = t} k h {old = old} size g = let x = page.stays_made (keeping_calls k) h size (gave bed t g) in
      (g.number ∙ sym (page.own_making bed t (length old)) ∙ x.0, x.1)
