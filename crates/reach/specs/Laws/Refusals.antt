-- What follows of a refusal and of what a search found.
-- Assumes nothing.
use Rattle.std.specs.Prelude.{◌≡◌, refl, ℕ, ◌<◌, Option, None, Some, Result, Ok, Err}
use Rattle.std.proofs.Common.{sym, ap, arith}
use Rattle.reach.specs.declared.answer.Refusal.{Refusal}
use Rattle.reach.specs.declared.answer.Refusal.TheVariants as refusal
use Rattle.reach.specs.declared.answer.Refused.{Refused}
use Rattle.reach.specs.Refusals.{number_of, refused_at}
use Rattle.rules.specs.Found.{at}
use Rattle.reach.specs.Told.{found_in}

-- a refusal has a number,
pub refused_some : (k : Refusal) → 0 < number_of k
refused_some refusal.Lengths = omega arith
refused_some refusal.Numbers = omega arith
refused_some refusal.Bed = omega arith
refused_some refusal.Friction = omega arith
refused_some refusal.State = omega arith
refused_some refusal.Speed = omega arith
refused_some refusal.TimeStep = omega arith
refused_some refusal.Stage = omega arith
refused_some refusal.Faces = omega arith

pub not_none : (k : Refusal) → number_of k ≡ 0 → ⊥
not_none k z = let some = refused_some k in omega (arith, some, z)

-- a refusal at what a search found tells its place,
module _ (k : Refusal) where
  pub stopped_at : (o : Option ℕ) (e : Refused) → refused_at k o ≡ Err e → (o ≡ Some e.place) × (e.refusal ≡ k)
  stopped_at None e is = let z : ⊥ = different is in absurd z
    where
      different : ◌≡◌ {A = Result (Unit {0}) Refused} (Ok tt) (Err e) → ⊥
      different d = let z : ◌≡◌ {A = ℕ} 0 1 = cc in omega arith
  stopped_at (Some i) e is = let same = same_refusal is in (ap (λ (f : Refused). Some f.place) same, sym (ap (λ (f : Refused). f.refusal) same))
    where
      same_refusal : {d : Refused} → ◌≡◌ {A = Result (Unit {0}) Refused} (Err d) (Err e) → d ≡ e
      same_refusal d = cc

  pub passed_by : (o : Option ℕ) (x : Unit {0}) → refused_at k o ≡ Ok x → o ≡ None
  passed_by None x is = refl
  passed_by (Some i) x is = let z : ⊥ = different is in absurd z
    where
      different : ◌≡◌ {A = Result (Unit {0}) Refused} (Err (record { refusal = k; place = i })) (Ok x) → ⊥
      different d = let z : ◌≡◌ {A = ℕ} 0 1 = cc in omega arith

  -- and so what is told of it is this refusal there
  pub told_there : (o : Option ℕ) (e : Refused) → refused_at k o ≡ Err e → found_in {A = Unit {0}} (Err e) ≡ at (number_of k) e.place
  told_there o e is = ap (λ (m : Refusal). at (number_of m) e.place) (stopped_at o e is).1

-- and what has gone on has none
pub went_on_none : {A : Type 0} {r : Result A Refused} {x : A} → r ≡ Ok x → (found_in r).no ≡ 0
went_on_none e = ap (λ r. (found_in r).no) e
