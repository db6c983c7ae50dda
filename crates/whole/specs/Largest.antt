-- To be believed: `bits`, `largest` and `IsLargest`.
-- The largest number that passes a test, found a bit at a time.
-- Assumes nothing.
use Rattle.std.specs.Prelude.{◌≡◌, refl, Bool, true, false, ℕ, zero, suc, ◌+◌, ◌^◌, ◌≤◌, ◌<◌, T, leb}
use Rattle.std.proofs.Common.{sym, subst, add-one, arith, le→leb, leb→le}
use Rattle.std.proofs.Math.Nat as NatL
use Rattle.std.proofs.Math.Decide.{dec_le}

-- the largest number below 2 ^ k that passes, added to a
unfoldable pub bits : (ℕ → Bool) → ℕ → ℕ → ℕ
bits p zero a = a
bits p (suc k) a = elim (p (a + 2 ^ k)) [ true ↦ bits p k (a + 2 ^ k) | false ↦ bits p k a ]

unfoldable pub largest : (ℕ → Bool) → ℕ → ℕ
largest p k = bits p k 0

-- it passes, and the next number does not
pub bits_is : (p : ℕ → Bool) (n a : ℕ) → T (p a) → (T (p (a + 2 ^ n)) → ⊥) → (T (p (bits p n a))) × (T (p (suc (bits p n a))) → ⊥)
unfolding bits
bits_is p zero a h f = (h, λ t. f (rw add-one t))
bits_is p (suc n) a h f = go (p (a + 2 ^ n)) refl (bits_is p n (a + 2 ^ n)) (bits_is p n a h)
  where
    go : (b : Bool) → p (a + 2 ^ n) ≡ b
        → (T (p (a + 2 ^ n)) → (T (p (a + 2 ^ n + 2 ^ n)) → ⊥) → (T (p (bits p n (a + 2 ^ n)))) × (T (p (suc (bits p n (a + 2 ^ n)))) → ⊥))
        → ((T (p (a + 2 ^ n)) → ⊥) → (T (p (bits p n a))) × (T (p (suc (bits p n a))) → ⊥))
        → let x = elim b as (λ y. ℕ) [ true ↦ bits p n (a + 2 ^ n) | false ↦ bits p n a ] in (T (p x)) × (T (p (suc x)) → ⊥)
    go true e u d = u (subst T (sym e) tt) (λ t. f (subst (λ (m : ℕ). T (p m)) (omega (arith, NatL.pow-suc 2 n)) t))
    go false e u d = d (λ t. subst T e t)

pub largest_is : (p : ℕ → Bool) (n : ℕ) → T (p 0) → (T (p (2 ^ n)) → ⊥) → (T (p (largest p n))) × (T (p (suc (largest p n))) → ⊥)
unfolding largest
largest_is p n h f = bits_is p n 0 h (λ t. f (subst (λ (m : ℕ). T (p m)) (omega arith) t))

bits_ge : (p : ℕ → Bool) (n a : ℕ) → a ≤ bits p n a
unfolding bits
bits_ge p zero a = omega arith
bits_ge p (suc n) a = go (p (a + 2 ^ n)) (bits_ge p n (a + 2 ^ n)) (bits_ge p n a)
  where
    go : (b : Bool) → a + 2 ^ n ≤ bits p n (a + 2 ^ n) → a ≤ bits p n a
        → a ≤ elim b as (λ y. ℕ) [ true ↦ bits p n (a + 2 ^ n) | false ↦ bits p n a ]
    go true u d = omega arith
    go false u d = d

-- where 1 passes it is not nought
pub bits_some : (p : ℕ → Bool) (n a : ℕ) → p (a + 1) ≡ true → a < bits p (suc n) a
unfolding bits
bits_some p zero a e = rw (bits, e) (omega arith)
bits_some p (suc n) a e = go (p (a + 2 ^ suc n)) (bits_ge p (suc n) (a + 2 ^ suc n)) (bits_some p n a e)
  where
    go : (b : Bool) → a + 2 ^ suc n ≤ bits p (suc n) (a + 2 ^ suc n) → a < bits p (suc n) a
        → a < elim b as (λ y. ℕ) [ true ↦ bits p (suc n) (a + 2 ^ suc n) | false ↦ bits p (suc n) a ]
    go true u d = omega (arith, NatL.one-le-pow (suc n) 2 (omega arith))
    go false u d = d

pub largest_some : (p : ℕ → Bool) (n : ℕ) → p 1 ≡ true → 0 < largest p (suc n)
unfolding largest
largest_some p n e = bits_some p n 0 e

-- ---- what "the largest" says: it has the property, and nothing above it has
pub record IsLargest (P : ℕ → Type 0) (a : ℕ) : Type 0 where
  pub has : P a
  pub most : (b : ℕ) → P b → b ≤ a

pub one_largest : {P : ℕ → Type 0} (a b : ℕ) → IsLargest P a → IsLargest P b → a ≡ b
one_largest a b p q = let h : a ≤ b = q.most a p.has in let k : b ≤ a = p.most b q.has in omega arith

-- ---- of a function that grows: the largest number at which it is at most m
module _ (f : ℕ → ℕ) (grows : (a b : ℕ) → a ≤ b → f a ≤ f b) (m : ℕ) where
  -- no number is larger than a, where it passes m at the next
  pub at_most : (a b : ℕ) → m < f (suc a) → f b ≤ m → b ≤ a
  at_most a b high low = go (dec_le b a)
    where
      go : Dec (b ≤ a) → b ≤ a
      go (yes l) = l
      go (no l) = let z : ⊥ = omega (arith, grows (suc a) b (omega arith)) in absurd z

  pub largest_most : (n : ℕ) → f 0 ≤ m → m < f (2 ^ n) → IsLargest (λ a. f a ≤ m) (largest (λ a. leb (f a) m) n)
  largest_most n low high =
      let p : ℕ → Bool = (λ a. leb (f a) m) in
      let k = largest_is p n (le→leb (f 0) m low) (λ t. let z : ⊥ = omega (arith, leb→le (f (2 ^ n)) m t) in z) in
      let a = largest p n in
      record {
        has = leb→le (f a) m k.0;
        most = λ b. at_most a b (NatL.lt_of_not-le (λ l. k.1 (le→leb (f (suc a)) m l)));
      }

  -- so a search that ends at such a number has found it
  pub found : (a b : ℕ) → IsLargest (λ c. f c ≤ m) b → f a ≤ m → m < f (suc a) → a ≡ b
  found a b k low high = one_largest a b (record { has = low; most = λ c. at_most a c high }) k
