-- A check of a list, made by a search for the lowest place to which it applies: what it finds is what the list gives, or it is passed.
-- Assumes nothing.
use Rattle.std.specs.Prelude.{◌≡◌, refl, false, List, ℕ, Option, None, Some, Result, Ok, Err}
use Rattle.std.proofs.Common.{sym, ◌∙◌, ap}
use Rattle.std.proofs.lemmas.Result.{err_from_is_err_and}
use Rattle.std.specs.Result.{IsErrAnd}
use Rattle.rules.specs.Refusals.{Check, applies, Clear}
use Rattle.rules.specs.Found.{at, found}
use Rattle.rules.proofs.Laws.Verdicts.{check_at, ClearTo, stops_at, none_stops}
use Rattle.reach.specs.declared.answer.Refusal.{Refusal}
use Rattle.reach.specs.declared.answer.Refused.{Refused}
use Rattle.reach.specs.Refusals.{number_of, refused_at}
use Rattle.reach.specs.Places.{first_place, found_says, none_says}
use Rattle.reach.specs.Told.{found_in}
use Rattle.reach.specs.Laws.Refusals.{stopped_at, told_there, passed_by}

-- a refusal that `?` hands on
pub handed_on : {A : Type 0} (r : Result A Refused) (e : Refused) → IsErrAnd r (λ y. y ≡ e) → r ≡ Err e
handed_on r e h = let left = err_from_is_err_and r h in left.1 ∙ ap Err left.2

-- check i of the list xs, with the refusal k, whose search has found q
module _ (xs : List Check) (i : ℕ) (k : Refusal) (q : Option ℕ) (number : number_of k ≡ (check_at xs i).no)
    (search_is : q ≡ first_place (check_at xs i).at (check_at xs i).many) where
  -- it stops at the place that was found,
  pub check_stops : ClearTo xs i → (e : Refused) → refused_at k q ≡ Err e → found_in {A = Unit {0}} (Err e) ≡ found xs
  check_stops clear e is =
      let place = found_says _ _ e.place (sym search_is ∙ (stopped_at k q e is).0) in
      told_there k q e is ∙ ap (λ (m : ℕ). at m e.place) number ∙ stops_at xs i e.place clear place.1 place.2

  -- or is passed,
  pub check_passes : (x : Unit {0}) → refused_at k q ≡ Ok x → applies (check_at xs i) ≡ false
  check_passes x is = none_says _ _ (sym search_is ∙ passed_by k q x is)

  -- and where it is the last, it says what the list gives
  pub last_check : ClearTo xs i → (applies (check_at xs i) ≡ false → Clear xs) → found_in (refused_at k q) ≡ found xs
  last_check clear all = go q refl
    where
      go : (o : Option ℕ) → q ≡ o → found_in (refused_at k o) ≡ found xs
      go (Some p) is = let place = found_says _ _ p (sym search_is ∙ is) in ap (λ (m : ℕ). at m p) number ∙ stops_at xs i p clear place.1 place.2
      go None is = none_stops xs (all (none_says _ _ (sym search_is ∙ is)))
