-- What the call gives, by the check of its lengths or of its numbers that stopped it, or by the step on tables.
-- Assumes nothing.
use Rattle.std.specs.Prelude.{◌≡◌, refl, Bool, false, List, ◌∷◌, ◌++◌, ℕ, zero, suc, ◌<◌, ltb, length, ℤ, Err}
use Rattle.std.proofs.Math.Path.{sym}
use Rattle.std.proofs.Common.{◌∙◌, ap, subst, arith, lt-ltb}
use Rattle.std.proofs.Math.Bool.{true}
use Rattle.whole.specs.Flags.{clash}
use Rattle.tables.specs.Some.{some, lowest}
use Rattle.rules.specs.Refusals.{Check, of_call, verdict, spot}
use Rattle.rules.specs.Found.{Found, at, found}
use Rattle.tables.specs.Pools.{pool_table}
use Rattle.rules.specs.Lent.{Outcome, outcome, refused}
use Rattle.rules.proofs.Laws.Accept.{none_at}
use Rattle.rules.proofs.Laws.Verdicts.{of_call_lem}
use Rattle.rules.proofs.Laws.Outcome.{refuses, without_first}
use Rattle.reach.specs.declared.answer.Refusal.{Refusal}
use Rattle.reach.specs.declared.answer.Refusal.TheVariants as refusal
use Rattle.reach.specs.Refusals.{number_of}
use Rattle.reach.specs.Laws.Refusals.{refused_some}
use Rattle.reach.specs.Gives.{answer, number_in, leaves, code, numbered, one_refused, Answer, Gives}
use Rattle.sill_rules.specs.Reach as rules
use Rattle.sill_rules.specs.Step.{next, carry}
use Rattle.sill_rules.specs.Refusals.{call_tests, bad_call, off, early, checks}
use Rattle.sill_rules.specs.Lent.{Lent, reach_of, call_of, state_of, misfit, misfits, all_checks, filled, crossed, step_of}
use Rattle.sill_rules.proofs.Laws.Lengths.{first_found, later_found}
use Rattle.sill.specs.declared.Given.{Given}
use Rattle.sill.specs.Told.{kind_of, end_by, call_in, reach_given, call_given, call_by, lent_by}
use Rattle.sill.specs.Says.{ready_checks, stage_checks, tables_outcome}

-- what is given of an outcome is given of one that is the same
pub same_gives : {o o' : Outcome} {a : Answer} {old new : List ℤ} → o ≡ o' → Gives o a old new → Gives o' a old new
same_gives {o} {o'} {a} {old} {new} e g = subst (λ (x : Outcome). Gives x a old new) e g

-- the numbers of a call that passed check 2 are told as they were given
kind_back : (k : ℕ) → ltb 1 k ≡ false → kind_of (end_by k) ≡ k
kind_back zero e = refl
kind_back (suc zero) e = refl
kind_back (suc (suc k)) e = clash (sym e ∙ lt-ltb 1 (suc (suc k)) (omega arith))

pub call_told : (n : ℕ) (given : Given) (bed : List ℤ) (ρ : ℕ → ℤ) → bad_call (reach_given n given bed) (call_given given ρ) ≡ false
    → call_in (call_by n given) ρ ≡ call_given given ρ
unfolding bad_call
call_told n given bed ρ e =
    let fails = none_at (call_tests (reach_given n given bed) (call_given given ρ)) e in
    let left = kind_back given.left (fails 3) in let right = kind_back given.right (fails 4) in
    λ j. record (call_given given ρ) { left = left j; right = right j }

-- a check of the call as a whole that applies first is what a list finds
first_of_call : (k : ℕ) (b : Bool) (xs : List Check) → b ≡ true → at k 0 ≡ found (of_call k b ∷ xs)
unfolding verdict spot some lowest
first_of_call k b xs e = rw e

module _ (state : List ℤ) (room : ℕ) (bed : List ℤ) (friction : List ℕ) (given : Given) where
  abbrev lent : Lent
  lent = lent_by state room bed friction given

  abbrev n : ℕ
  n = length friction

  -- a refusal at the place 0
  abbrev stop : Refusal → Answer
  stop k = Err (record { refusal = k; place = 0 })

  -- where the checks found its number
  refused_with : (k : Refusal) → number_of k < 9 → at (number_of k) 0 ≡ found (all_checks lent) → (old : List ℤ)
      → Gives (step_of lent) (stop k) old old
  unfolding step_of answer number_in leaves code
  refused_with k few e old =
      let some = refused_some k in
      let is : step_of lent ≡ refused (number_of k) 0 =
      refuses _ _ _ (all_checks lent) (λ d. omega (arith, ap (λ (x : Found). x.no) e, d, some))
      ∙ (λ j. refused (sym e j).no (sym e j).place) in
      record {
        says = ap Err (one_refused (record { refusal = k; place = 0 }) _ (sym (numbered (number_of k) some few)) refl) ∙ sym (ap answer is);
        number = sym (ap number_in is);
        table = sym (ap (λ (o : Outcome). leaves o old) is);
      }

  pub length_refused : misfit (length state) room (length bed) n ≡ true → (old : List ℤ)
      → Gives (step_of lent) (stop refusal.Lengths) old old
  length_refused e = refused_with refusal.Lengths (omega arith) (first_found lent e)

  module _ (e : misfit (length state) room (length bed) n ≡ false) where
    pub call_refused : bad_call (reach_of lent) (call_of lent) ≡ true → (old : List ℤ) → Gives (step_of lent) (stop refusal.Numbers) old old
    unfolding checks early
    call_refused b = refused_with refusal.Numbers (omega arith) (two b ∙ later_found lent e)
      where
        two : bad_call (reach_of lent) (call_of lent) ≡ true → at 2 0 ≡ found (checks (reach_of lent) (call_of lent) (state_of lent))
        two b = first_of_call 2 (bad_call (reach_of lent) (call_of lent)) _ b

    -- the step on tables of a call that was told
    abbrev on_tables : rules.Call → Outcome
    on_tables c = let r = reach_of lent in let s = state_of lent in
        outcome (ready_checks n bed friction state ++ stage_checks r c s) (pool_table n (next r c s)) (carry r c s 0) (carry r c s n)

    -- the checks after 2 are those of the step on tables
    pub further : bad_call (reach_of lent) (call_of lent) ≡ false → tables_outcome (call_by n given) bed friction state ≡ step_of lent
    unfolding step_of all_checks checks early filled crossed off
    further b =
        let bad = bad_call (reach_of lent) (call_of lent) in
        (λ j. on_tables (call_told n given bed (call_of lent).rough b j))
        ∙ sym (without_first _ _ _ (of_call 1 (misfits lent)) _ (of_call_lem 1 (misfits lent) ∙ e)
        ∙ without_first _ _ _ (of_call 2 bad) _ (of_call_lem 2 bad ∙ b))
