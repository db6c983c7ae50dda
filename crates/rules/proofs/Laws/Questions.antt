-- What making the sums, a question and the step that keeps the sums give, by the checks that they pass.
-- Assumes nothing.
use Rattle.std.specs.Prelude.{◌≡◌, Bool, true, false, ◌||◌, List, ℕ, suc, ◌≤◌, eqb, ltb, length, ℤ}
use Rattle.std.proofs.Math.Path.{refl, ap}
use Rattle.std.proofs.Common.{sym, ◌∙◌, arith, eqb-true, eq-eqb, ne_eqb, ltb-false}
use Rattle.std.proofs.Math.Bool.{cond}
use Rattle.std.proofs.lemmas.Bool.{not-false}
use Rattle.whole.specs.Flags.{by, or_l, or_r}
use Rattle.tables.specs.Some.{some}
use Rattle.rules.specs.Refusals.{verdict}
use Rattle.rules.specs.Lent.{Lent, cells_of, refused, step_of}
use Rattle.rules.specs.StateAndBed.{cells_over, misfit_state, state_refusal}
use Rattle.rules.specs.Sums.{blocks_of, misfit_sums, sums_of, making_checks, making_refusal, unmade, made, making_of}
use Rattle.rules.specs.Sums.{Reading, reading, question_checks, question_refusal, Question, unanswered, answered, between_of, keeping_of}
use Rattle.rules.proofs.Laws.Verdicts.{of_call_lem}

-- ---- the length of the sums
pub sums_misfit : (sums n : ℕ) → (sums ≡ blocks_of n → ⊥) → misfit_sums sums n ≡ true
sums_misfit sums n e = rw (ne_eqb sums (blocks_of n) e) refl

pub sums_fit : (sums n : ℕ) → sums ≡ blocks_of n → misfit_sums sums n ≡ false
sums_fit sums n e = rw (eq-eqb sums (blocks_of n) e) refl

pub as_many : (sums n : ℕ) → misfit_sums sums n ≡ false → sums ≡ blocks_of n
as_many sums n e = eqb-true sums (blocks_of n) (not-false (eqb sums (blocks_of n)) e)

-- ---- making them
module _ (bed t : List ℤ) (sums : ℕ) where
  -- its number is 1, or that of the state and its bed
  pub making_first : misfit_sums sums (cells_over bed) ≡ true → making_refusal bed t sums ≡ 1
  unfolding making_refusal making_checks verdict
  making_first e = rw (of_call_lem 1 (misfit_sums sums (cells_over bed)) ∙ e) refl

  pub making_later : misfit_sums sums (cells_over bed) ≡ false → making_refusal bed t sums ≡ state_refusal bed t
  unfolding making_refusal making_checks verdict state_refusal
  making_later e = rw (of_call_lem 1 (misfit_sums sums (cells_over bed)) ∙ e) refl

  -- it is that of the first check that applies, and what is given goes by it
  pub making_verdict : making_refusal bed t sums ≡ verdict (making_checks bed t sums)
  unfolding making_refusal
  making_verdict = refl

  pub by_number : (k : ℕ) → making_refusal bed t sums ≡ k → making_of bed t sums ≡ cond (eqb k 0) (made (sums_of bed t)) (unmade k)
  unfolding making_of
  by_number k e = ap (λ (m : ℕ). cond (eqb m 0) (made (sums_of bed t)) (unmade m)) e

  pub unmade_one : misfit_sums sums (cells_over bed) ≡ true → making_of bed t sums ≡ unmade 1
  unmade_one e = by_number 1 (making_first e)

  pub unmade_later : misfit_sums sums (cells_over bed) ≡ false → (state_refusal bed t ≡ 0 → ⊥)
      → making_of bed t sums ≡ unmade (state_refusal bed t)
  unmade_later e some = by_number (state_refusal bed t) (making_later e) ∙ rw (ne_eqb (state_refusal bed t) 0 some) refl

  pub all_made : misfit_sums sums (cells_over bed) ≡ false → state_refusal bed t ≡ 0 → making_of bed t sums ≡ made (sums_of bed t)
  all_made e none = by_number 0 (making_later e ∙ none)

-- ---- a question
module _ (bed t sums : List ℤ) (a b : ℕ) where
  abbrev n : ℕ
  n = cells_over bed

  -- the faces are not in order, or lie beyond the reach
  abbrev pub disordered : Bool
  disordered = ltb b a || ltb (cells_over bed) b

  -- its number is that of the first check that applies, and what is given goes by it
  pub question_verdict : question_refusal bed t (length sums) a b ≡ verdict (question_checks bed t (length sums) a b)
  unfolding question_refusal
  question_verdict = refl

  pub by_refusal : (k : ℕ) → question_refusal bed t (length sums) a b ≡ k
      → between_of bed t sums a b ≡ cond (eqb k 0) (answered (reading bed t sums a b)) (unanswered k)
  unfolding between_of
  by_refusal k e = ap (λ (m : ℕ). cond (eqb m 0) (answered (reading bed t sums a b)) (unanswered m)) e

  -- the checks in their order
  question_is : question_refusal bed t (length sums) a b
      ≡ cond (misfit_sums (length sums) n) 1 (cond (misfit_state (length t) n) 1 (cond disordered 10 0))
  unfolding question_refusal question_checks verdict some
  question_is = refl

  pub unanswered_sums : misfit_sums (length sums) n ≡ true → between_of bed t sums a b ≡ unanswered 1
  unanswered_sums e = by_refusal 1 (question_is ∙ rw e refl)

  module _ (fit : misfit_sums (length sums) n ≡ false) where
    pub unanswered_state : misfit_state (length t) n ≡ true → between_of bed t sums a b ≡ unanswered 1
    unanswered_state e = by_refusal 1 (question_is ∙ rw (fit, e) refl)

    pub unanswered_faces : misfit_state (length t) n ≡ false → disordered ≡ true → between_of bed t sums a b ≡ unanswered 10
    unanswered_faces e d = by_refusal 10 (question_is ∙ rw (fit, e, d) refl)

    pub all_answered : misfit_state (length t) n ≡ false → disordered ≡ false
        → between_of bed t sums a b ≡ answered (reading bed t sums a b)
    all_answered e d = by_refusal 0 (question_is ∙ rw (fit, e, d) refl)

  -- one that is answered has passed them all, and its faces are in order
  pub record Asked (r : Reading) : Type 0 where
    pub sums_fit : misfit_sums (length sums) (cells_over bed) ≡ false
    pub state_fits : misfit_state (length t) (cells_over bed) ≡ false
    pub ordered : a ≤ b
    pub inside : b ≤ cells_over bed
    pub is : r ≡ reading bed t sums a b

  pub answered_asked : (r : Reading) → between_of bed t sums a b ≡ answered r → Asked r
  answered_asked r e = by (misfit_sums (length sums) n)
      (λ p. never (unanswered_sums p))
      (λ p. by (misfit_state (length t) n)
      (λ q. never (unanswered_state p q))
      (λ q. by disordered
      (λ d. never (unanswered_faces p q d))
      (λ d. record {
        sums_fit = p;
        state_fits = q;
        ordered = ltb-false b a (or_l (ltb b a) (ltb n b) d);
        inside = ltb-false n b (or_r (ltb b a) (ltb n b) d);
        is = ap reading_of (sym e ∙ all_answered p q d);
      })))
    where
      reading_of : Question → Reading
      reading_of (answered x) = x
      reading_of (unanswered k) = r

      number_of : Question → ℕ
      number_of (answered x) = 0
      number_of (unanswered k) = suc k

      never : {k : ℕ} {P : Type 0} → between_of bed t sums a b ≡ unanswered k → P
      never d = let z = ap number_of (sym e ∙ d) in let f : ⊥ = omega (arith, z) in absurd f

-- ---- the step that keeps the sums
module _ (l : Lent) (sums : ℕ) where
  pub unkept : misfit_sums sums (cells_of l) ≡ true → keeping_of l sums ≡ refused 1 0
  unfolding keeping_of
  unkept e = rw e refl

  pub kept_step : misfit_sums sums (cells_of l) ≡ false → keeping_of l sums ≡ step_of l
  unfolding keeping_of
  kept_step e = rw e refl
