-- To be believed: all but the laws at the end.
-- What a step says: one answer, and one content of the lent table.
use Rattle.std.specs.Prelude.{◌≡◌, refl, cond, List, ℕ, suc, zero, ◌<◌, eqb, ℤ, Result, Ok, Err}
use Rattle.std.proofs.Common.{sym, ◌∙◌, ap, arith}
use Rattle.rules.specs.Lent.{Outcome, refused, accepted}
use Rattle.reach.specs.declared.answer.Refusal.{Refusal}
use Rattle.reach.specs.declared.answer.Refusal.TheVariants as refusal
use Rattle.reach.specs.declared.answer.Refused.{Refused}
use Rattle.reach.specs.declared.answer.Volumes.{Volumes as Crossed}
use Rattle.reach.specs.Refusals.{number_of, told_number}

abbrev pub Answer : Type 0
Answer = Result Crossed Refused

-- ---- the scope document's number and values of each answer
-- the number of a refusal and its place, both 0 for an accepted step;
unfoldable pub code : Answer → ℕ
code (Err e) = number_of e.refusal
code (Ok v) = 0

unfoldable pub placed : Answer → ℕ
placed (Err e) = e.place
placed (Ok v) = 0

-- and W at face 0 and at face n, which an accepted step has and a refusal has not
pub data Volumes : Type 0 where
  absent : Volumes
  both : ℤ → ℤ → Volumes

unfoldable pub volumes : Answer → Volumes
volumes (Err e) = absent
volumes (Ok v) = both v.first v.last

-- ---- what a call gives
-- the refusal that has a number of the list, and any other number's
unfoldable pub refusal_of : ℕ → Refusal
refusal_of k =
    cond (eqb k 1) refusal.Lengths
    (cond (eqb k 2) refusal.Numbers
    (cond (eqb k 3) refusal.Bed
    (cond (eqb k 4) refusal.Friction
    (cond (eqb k 5) refusal.State
    (cond (eqb k 6) refusal.Speed
    (cond (eqb k 7) refusal.TimeStep
    (cond (eqb k 8) refusal.Stage refusal.Faces)))))))

-- the answer of an outcome,
unfoldable pub answer : Outcome → Answer
answer (refused k p) = Err (record { refusal = refusal_of k; place = p })
answer (accepted t w v) = Ok (record { first = w; last = v })

-- its number,
unfoldable pub number_in : Outcome → ℕ
number_in (refused k p) = k
number_in (accepted t w v) = 0

-- and what it leaves in the lent table
unfoldable pub leaves : Outcome → List ℤ → List ℤ
leaves (refused k p) old = old
leaves (accepted t w v) old = t

pub record Gives (o : Outcome) (a : Answer) (old new : List ℤ) : Type 0 where
  pub says : a ≡ answer o
  pub number : code a ≡ number_in o
  pub table : new ≡ leaves o old

-- one answer and one content
pub one_answer : {o : Outcome} {a b : Answer} {old new new' : List ℤ} → Gives o a old new → Gives o b old new' → a ≡ b
one_answer p q = p.says ∙ sym q.says

pub one_table : {o : Outcome} {a b : Answer} {old new new' : List ℤ} → Gives o a old new → Gives o b old new' → new ≡ new'
one_table p q = p.table ∙ sym q.table

-- a refusal has its own number,
number_back : (k : Refusal) → refusal_of (number_of k) ≡ k
unfolding refusal_of
number_back refusal.Lengths = refl
number_back refusal.Numbers = refl
number_back refusal.Bed = refl
number_back refusal.Friction = refl
number_back refusal.State = refl
number_back refusal.Speed = refl
number_back refusal.TimeStep = refl
number_back refusal.Stage = refl
number_back refusal.Faces = refl

pub one_refused : (d e : Refused) → number_of d.refusal ≡ number_of e.refusal → d.place ≡ e.place → d ≡ e
one_refused d e p q =
    let same : d.refusal ≡ e.refusal = sym (number_back d.refusal) ∙ ap refusal_of p ∙ number_back e.refusal in
    λ i. record { refusal = same i; place = q i }

-- so what is told by its number leaves one answer;
pub one_told : (a b : Result (Unit {0}) Refusal) → told_number a ≡ told_number b → a ≡ b
unfolding refusal_of
one_told a b e = sym (back a) ∙ ap told e ∙ back b
  where
    told : ℕ → Result (Unit {0}) Refusal
    told k = cond (eqb k 0) (Ok tt) (Err (refusal_of k))

    numbered_back : (k : Refusal) → told (number_of k) ≡ Err k
    numbered_back refusal.Lengths = refl
    numbered_back refusal.Numbers = refl
    numbered_back refusal.Bed = refl
    numbered_back refusal.Friction = refl
    numbered_back refusal.State = refl
    numbered_back refusal.Speed = refl
    numbered_back refusal.TimeStep = refl
    numbered_back refusal.Stage = refl
    numbered_back refusal.Faces = refl

    back : (r : Result (Unit {0}) Refusal) → told (told_number r) ≡ r
    back (Ok x) = refl
    back (Err k) = numbered_back k

-- so an outcome with the number and the place of a refusal gives just that,
pub answer_refused : (e : Refused) → Err e ≡ answer (refused (number_of e.refusal) e.place)
unfolding answer
answer_refused e = let back = sym (number_back e.refusal) in λ i. Err (record { refusal = back i; place = e.place })

pub gives_refused : (e : Refused) {o : Outcome} → o ≡ refused (number_of e.refusal) e.place → (old : List ℤ) → Gives o (Err e) old old
unfolding number_in leaves code
gives_refused e is old = rw is (record { says = answer_refused e; number = refl; table = refl })

-- and a number of a step's list its own refusal
pub numbered : (k : ℕ) → 0 < k → k < 9 → number_of (refusal_of k) ≡ k
unfolding refusal_of
numbered zero a b = let z : ⊥ = omega arith in absurd z
numbered (suc zero) a b = refl
numbered (suc (suc zero)) a b = refl
numbered (suc (suc (suc zero))) a b = refl
numbered (suc (suc (suc (suc zero)))) a b = refl
numbered (suc (suc (suc (suc (suc zero))))) a b = refl
numbered (suc (suc (suc (suc (suc (suc zero)))))) a b = refl
numbered (suc (suc (suc (suc (suc (suc (suc zero))))))) a b = refl
numbered (suc (suc (suc (suc (suc (suc (suc (suc zero)))))))) a b = refl
numbered (suc (suc (suc (suc (suc (suc (suc (suc (suc k))))))))) a b = let z : ⊥ = omega arith in absurd z
