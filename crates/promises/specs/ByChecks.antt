-- What a call by a list of checks gives, whatever its reach: the number and the place of the first check that is met, or the table that it
-- fills and the two volumes. Each reach's statements of this are had from here.
-- Assumes nothing.
use Rattle.std.specs.Prelude.{◌≡◌, refl, List, ℕ, zero, suc, ◌≤◌, ◌<◌, T, eqb, ℤ, Ok, Err}
use Rattle.std.proofs.Math.Path.{sym, ap}
use Rattle.std.proofs.Common.{◌∙◌, subst, arith}
use Rattle.std.proofs.Math.Decide.{dec_lt}
use borrow.Author.Tests.{eqb-true, eqb-false}
use Rattle.whole.specs.Flags.{by}
use Rattle.rules.specs.Refusals.{Check, verdict, spot, Clear}
use Rattle.rules.specs.Lent.{Outcome, outcome}
use Rattle.rules.specs.Found.{Found, at}
use Rattle.rules.proofs.Laws.Verdicts.{cleared, none_stops}
use Rattle.rules.proofs.Laws.Outcome.{accepts, refuses}
use Rattle.rules.proofs.Laws.Within.{Within, spot_within, one_only, spot_whole}
use Rattle.reach.specs.Gives.{Answer, code, placed, volumes, absent, both, refusal_of, Gives, answer, number_in, leaves}
use Rattle.promises.specs.Seen.{FirstMet, FirstMetAt}
use Rattle.promises.specs.First.{first_verdict, verdict_first, first_of, first_found, found_first, listed, first_listed, listed_some}

-- an answer with volumes has the number 0
pub volumes_code : (a : Answer) (w v : ℤ) → volumes a ≡ both w v → code a ≡ 0
unfolding volumes code
volumes_code (Err k) w v e = let z : ◌≡◌ {A = ℕ} 0 1 = cc in let f : ⊥ = omega arith in absurd f
volumes_code (Ok x) w v e = refl

-- that of an accepted call
abbrev pub accepted_with : ℤ → ℤ → Answer
accepted_with w v = Ok (record { first = w; last = v })

-- ---- the number of the outcome is the verdict's
module _ (xs : List Check) (t : List ℤ) (w v : ℤ) where
  outcome_number : number_in (outcome xs t w v) ≡ verdict xs
  unfolding number_in
  outcome_number = by (eqb (verdict xs) 0)
      (λ b. let e = eqb-true (verdict xs) 0 b in ap number_in (accepts t w v xs e) ∙ sym e)
      (λ b. ap number_in (refuses t w v xs (eqb-false (verdict xs) 0 b)))

-- a call with the checks xs, that fills the table t and has the volumes w and v where none of them applies
pub record ByChecks (xs : List Check) (t : List ℤ) (w v : ℤ) (a : Answer) (old new : List ℤ) : Type 0 where
  pub gave : Gives (outcome xs t w v) a old new

module _ {xs : List Check} {t : List ℤ} {w v : ℤ} {a : Answer} {old new : List ℤ} (g : ByChecks xs t w v a old new) where
  -- ---- the answer
  refused_is : (verdict xs ≡ 0 → ⊥) → a ≡ Err (record { refusal = refusal_of (verdict xs); place = spot xs })
  unfolding answer
  refused_is f = g.gave.says ∙ ap answer (refuses t w v xs f)

  accepted_is : verdict xs ≡ 0 → a ≡ accepted_with w v
  unfolding answer
  accepted_is e = g.gave.says ∙ ap answer (accepts t w v xs e)

  -- its number
  pub coded : code a ≡ verdict xs
  coded = g.gave.number ∙ outcome_number xs t w v

  some_number : 0 < code a → verdict xs ≡ 0 → ⊥
  some_number some e = omega (arith, coded)

  -- ---- a refusal: a check with its number is the first one met, at its place
  pub refused_first : 0 < code a → FirstMet (code a) xs
  refused_first some = verdict_first (code a) xs some (sym coded)

  pub first_refused : (k : ℕ) → FirstMet k xs → code a ≡ k
  first_refused k f = coded ∙ first_verdict k f

  pub refused_place : 0 < code a → placed a ≡ spot xs
  unfolding placed
  refused_place some = ap placed (refused_is (some_number some))

  pub refused_at : 0 < code a → FirstMetAt (code a) (placed a) xs
  refused_at some = found_first (code a) (placed a) xs some (sym (λ i. at (coded i) (refused_place some i)))

  -- the table is what it was, and there are no volumes
  pub refused_untouched : 0 < code a → (new ≡ old) × (volumes a ≡ absent)
  unfolding leaves volumes
  refused_untouched some = let f = some_number some in
      (g.gave.table ∙ ap (λ (o : Outcome). leaves o old) (refuses t w v xs f), ap volumes (refused_is f))

  -- ---- an accepted call
  pub accepted_place : code a ≡ 0 → placed a ≡ 0
  unfolding placed
  accepted_place e = ap placed (accepted_is (sym coded ∙ e))

  pub accepted_table : code a ≡ 0 → new ≡ t
  unfolding leaves
  accepted_table e = g.gave.table ∙ ap (λ (o : Outcome). leaves o old) (accepts t w v xs (sym coded ∙ e))

  pub accepted_volumes : code a ≡ 0 → volumes a ≡ both w v
  unfolding volumes
  accepted_volumes e = ap volumes (accepted_is (sym coded ∙ e))

  pub clear_accepted : Clear xs → code a ≡ 0
  clear_accepted k = coded ∙ sym (ap (λ (x : Found). x.no) (none_stops xs k))

  -- ---- where every check of the list has a number from 1 to 8
  module _ (ok : T (listed xs)) where
    pub refused_listed : code a < 9
    refused_listed = go (dec_lt 0 (code a))
      where
        go : Dec (0 < code a) → code a < 9
        go (yes some) = (first_listed (code a) (refused_first some) ok).1
        go (no nought) = omega (arith, nought)

    pub at_refused : (k p : ℕ) → FirstMetAt k p xs → (code a ≡ k) × (placed a ≡ p)
    at_refused k p f =
        let first = first_of k p f in let is = first_refused k first in
        let some = subst (λ (m : ℕ). 0 < m) (sym is) (first_listed k first ok).0 in
        (is, refused_place some ∙ ap (λ (x : Found). x.place) (first_found k p f))

    pub accepted_clear : code a ≡ 0 → Clear xs
    accepted_clear e = cleared xs (listed_some xs ok) (sym e ∙ coded)

  -- ---- places: one for a check of the call as a whole, and none past m where no check has more than m and one
  pub refused_whole : T (one_only 1 xs) → T (one_only 2 xs) → code a ≤ 2 → placed a ≡ 0
  refused_whole one two few = go (verdict xs) refl (subst (λ (k : ℕ). k ≤ 2) coded few)
    where
      go : (k : ℕ) → verdict xs ≡ k → k ≤ 2 → placed a ≡ 0
      go zero e m = accepted_place (coded ∙ e)
      go (suc zero) e m = refused_place (omega (arith, coded)) ∙ spot_whole 1 xs one e
      go (suc (suc zero)) e m = refused_place (omega (arith, coded)) ∙ spot_whole 2 xs two e
      go (suc (suc (suc k))) e m = let z : ⊥ = omega arith in absurd z

  pub refused_within : (m : ℕ) → Within m xs → placed a ≤ m
  refused_within m few = go (dec_lt 0 (code a))
    where
      go : Dec (0 < code a) → placed a ≤ m
      go (yes some) = subst (λ (p : ℕ). p ≤ m) (sym (refused_place some)) (spot_within m xs few)
      go (no nought) = let e = accepted_place (omega (arith, nought)) in omega arith

-- ---- an accepted call by its volumes: its number, these, and its table
pub record Taken (xs : List Check) (t : List ℤ) (w v x y : ℤ) (new : List ℤ) : Type 0 where
  pub number : verdict xs ≡ 0
  pub left : x ≡ w
  pub right : y ≡ v
  pub table : new ≡ t

pub taken : {xs : List Check} {t : List ℤ} {w v : ℤ} {a : Answer} {old new : List ℤ} → ByChecks xs t w v a old new → (x y : ℤ)
    → volumes a ≡ both x y → Taken xs t w v x y new
taken {w = w} {v} {a} g x y e =
    let none = volumes_code a x y e in let p : both x y ≡ both w v = sym e ∙ accepted_volumes g none in
    record { number = sym (coded g) ∙ none; left = cc; right = cc; table = accepted_table g none }
