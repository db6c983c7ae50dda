-- Lists of checks, each of which is that of the other list from the last place to the first, give one number.
-- Assumes nothing.
use Rattle.std.specs.Prelude.{◌≡◌, Bool, List, [], ◌∷◌, ◌++◌, ℕ, suc, ◌+◌}
use Rattle.whole.specs.Flags.{by}
use Rattle.tables.specs.Some.{some}
use Rattle.tables.proofs.Some.{some_reversed}
use Rattle.rules.specs.Refusals.{Check, each, verdict, Clear}

pub data Reversed : List Check → List Check → Type 0 where
  end : Reversed [] []
  and : (k n : ℕ) (p q : ℕ → Bool) (xs ys : List Check) → ((i j : ℕ) → suc (i + j) ≡ n → q i ≡ p j) → Reversed xs ys
      → Reversed (each k n p ∷ xs) (each k n q ∷ ys)

pub also : {k n : ℕ} {p q : ℕ → Bool} {xs ys : List Check} → ((i j : ℕ) → suc (i + j) ≡ n → q i ≡ p j) → Reversed xs ys
    → Reversed (each k n p ∷ xs) (each k n q ∷ ys)
also {k} {n} {p} {q} {xs} {ys} e a = and k n p q xs ys e a

-- where what follows them gives one when none of them applies
pub same_number : {xs ys : List Check} → Reversed xs ys → (us vs : List Check) → (Clear xs → verdict vs ≡ verdict us)
    → verdict (ys ++ vs) ≡ verdict (xs ++ us)
unfolding verdict
same_number end us vs f = f tt
same_number (and k n p q xs ys e a) us vs f = by (some p n)
    (λ b. rw (some_reversed p q n e, b)) (λ b. rw (some_reversed p q n e, b) (same_number a us vs (λ c. f (b, c))))
