-- Sums over places in a row: one after another, and of the places that have a property.
-- Assumes nothing.
use Rattle.std.specs.Prelude.{◌≡◌, Bool, true, false, cond, [], ◌∷◌, ℤ, nat_abs}
use Rattle.std.proofs.Math.Path.{refl, ap, ap₂}
use Rattle.std.proofs.Common.{sym, ◌∙◌}
use Prim.Native.Nat.{ℕ, zero, suc, ◌+◌, ◌-◌, ◌≤◌, ◌<◌}
use native.Mathlib.Omega.{arith}
use Rattle.std.proofs.Math.IntN.{pos, ◌+ℤ◌}
use Rattle.whole.specs.Ring.{v, k, ◌⊕◌, solve}
use Rattle.rules.specs.Sums.{sum_from, sum_to, count, only}
use Rattle.rules.specs.Laws.Summing.{Has}

module _ (f : ℕ → ℤ) where
  -- ---- one after another
  from_join : (a j m n : ℕ) → n ≡ j + m → sum_from f a n ≡ sum_from f a j +ℤ sum_from f (a + j) m
  unfolding sum_from
  from_join a j zero n e =
      let z : n ≡ j = omega arith in
      ap (sum_from f a) z ∙ solve (sum_from f a j ∷ []) (v 0) (v 0 ⊕ k (pos 0)) tt
  from_join a j (suc m) zero e = let z : ⊥ = omega arith in absurd z
  from_join a j (suc m) (suc n) e =
      let p : n ≡ j + m = omega arith in let q : a + n ≡ a + j + m = omega arith in
      ap₂ ◌+ℤ◌ (from_join a j m n p) (ap f q)
      ∙ solve (sum_from f a j ∷ sum_from f (a + j) m ∷ f (a + j + m) ∷ []) (v 0 ⊕ v 1 ⊕ v 2) (v 0 ⊕ (v 1 ⊕ v 2)) tt

  pub sum_join : (a b c : ℕ) → a ≤ b → b ≤ c → sum_to f a c ≡ sum_to f a b +ℤ sum_to f b c
  sum_join a b c p q =
      let e : a + (b - a) ≡ b = omega arith in
      from_join a (b - a) (c - b) (c - a) (omega arith) ∙ ap (λ (x : ℕ). sum_to f a b +ℤ sum_from f x (c - b)) e

  pub sum_none : (a : ℕ) → sum_to f a a ≡ pos 0
  unfolding sum_from
  sum_none a = let e : a - a ≡ 0 = omega arith in ap (sum_from f a) e

  -- one place more
  pub sum_more : (a b : ℕ) → a ≤ b → sum_to f a (b + 1) ≡ sum_to f a b +ℤ f b
  unfolding sum_from
  sum_more a b p =
      let e : b + 1 - a ≡ suc (b - a) = omega arith in let q : a + (b - a) ≡ b = omega arith in
      ap (sum_from f a) e ∙ ap (λ (x : ℕ). sum_from f a (b - a) +ℤ f x) q

-- ---- two functions that agree
from_same : (f g : ℕ → ℤ) (a m : ℕ) → ((i : ℕ) → a ≤ i → i < a + m → f i ≡ g i) → sum_from f a m ≡ sum_from g a m
unfolding sum_from
from_same f g a zero h = refl
from_same f g a (suc m) h =
    ap₂ ◌+ℤ◌ (from_same f g a m (λ i p q. h i p (omega arith))) (h (a + m) (omega arith) (omega arith))

pub sum_same : (f g : ℕ → ℤ) (a b : ℕ) → a ≤ b → ((i : ℕ) → a ≤ i → i < b → f i ≡ g i) → sum_to f a b ≡ sum_to g a b
sum_same f g a b l h = from_same f g a (b - a) (λ i p q. h i p (omega arith))

from_noughts : (a m : ℕ) → sum_from (λ i. pos 0) a m ≡ pos 0
unfolding sum_from
from_noughts a zero = refl
from_noughts a (suc m) = ap (λ (x : ℤ). x +ℤ pos 0) (from_noughts a m) ∙ refl

from_ones : (a m : ℕ) → sum_from (λ i. pos 1) a m ≡ pos m
unfolding sum_from
from_ones a zero = refl
from_ones a (suc m) = ap (λ (x : ℤ). x +ℤ pos 1) (from_ones a m) ∙ (let e : m + 1 ≡ suc m = omega arith in ap pos e)

-- ---- of the places that have p
module _ (p : ℕ → Bool) where
  module _ (f : ℕ → ℤ) where
    has_all : (a b : ℕ) → a ≤ b → Has p true a b → sum_to (only p f) a b ≡ sum_to f a b
    has_all a b l h = sum_same (only p f) f a b l (λ i x y. rw (h i x y) refl)

    has_none : (a b : ℕ) → a ≤ b → Has p false a b → sum_to (only p f) a b ≡ pos 0
    has_none a b l h = sum_same (only p f) (λ i. pos 0) a b l (λ i x y. rw (h i x y) refl) ∙ from_noughts a (b - a)

    -- they are those from b up to c
    pub one_span : (a b c d : ℕ) → a ≤ b → b ≤ c → c ≤ d → Has p false a b → Has p true b c → Has p false c d
        → sum_to (only p f) a d ≡ sum_to f b c
    one_span a b c d x y z none all rest =
        sum_join (only p f) a b d x (omega arith)
        ∙ ap₂ ◌+ℤ◌ (has_none a b x none) (sum_join (only p f) b c d y z ∙ ap₂ ◌+ℤ◌ (has_all b c y all) (has_none c d z rest))
        ∙ solve (sum_to f b c ∷ []) (k (pos 0) ⊕ (v 0 ⊕ k (pos 0))) (v 0) tt

    -- they are those from a up to b, and those from c up to d
    pub two_spans : (a b c d n : ℕ) → a ≤ b → b ≤ c → c ≤ d → d ≤ n
        → Has p false 0 a → Has p true a b → Has p false b c → Has p true c d → Has p false d n
        → sum_to (only p f) 0 n ≡ sum_to f a b +ℤ sum_to f c d
    two_spans a b c d n x y z w none first mid second rest =
        sum_join (only p f) 0 c n (omega arith) (omega arith)
        ∙ ap₂ ◌+ℤ◌ (one_span 0 a b c (omega arith) x y none first mid)
        (one_span c c d n (omega arith) z w (λ i q l. let e : ⊥ = omega arith in absurd e) second rest)

  -- ---- how many they are
  more : (m : ℕ) (b : Bool) → pos (m + cond b 1 0) ≡ pos m +ℤ cond b (pos 1) (pos 0)
  more m true = refl
  more m false = refl

  count_from : (m : ℕ) → pos (count p m) ≡ sum_from (only p (λ i. pos 1)) 0 m
  unfolding count sum_from
  count_from zero = refl
  count_from (suc m) = let e : m ≡ 0 + m = omega arith in
      more (count p m) (p m) ∙ ap₂ ◌+ℤ◌ (count_from m) (ap (only p (λ i. pos 1)) e)

  counted : (n m : ℕ) → sum_to (only p (λ i. pos 1)) 0 n ≡ pos m → count p n ≡ m
  counted n m e = let z : n - 0 ≡ n = omega arith in
      ap nat_abs (count_from n ∙ ap (sum_from (only p (λ i. pos 1)) 0) (sym z) ∙ e)

  pub one_count : (b c d : ℕ) → b ≤ c → c ≤ d → Has p false 0 b → Has p true b c → Has p false c d → count p d ≡ c - b
  one_count b c d y z none all rest =
      counted d (c - b) (one_span (λ i. pos 1) 0 b c d (omega arith) y z none all rest ∙ from_ones b (c - b))

  pub two_counts : (a b c d n : ℕ) → a ≤ b → b ≤ c → c ≤ d → d ≤ n
      → Has p false 0 a → Has p true a b → Has p false b c → Has p true c d → Has p false d n → count p n ≡ b - a + (d - c)
  two_counts a b c d n x y z w none first mid second rest =
      counted n (b - a + (d - c)) (two_spans (λ i. pos 1) a b c d n x y z w none first mid second rest
      ∙ ap₂ ◌+ℤ◌ (from_ones a (b - a)) (from_ones c (d - c)))
