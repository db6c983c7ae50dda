-- To be believed: `min_z`, `max_z` and `size_z`.
-- The lesser and the greater of two whole numbers, and the size of one; how they turn when signs do.
-- Assumes nothing.
use Rattle.std.specs.Prelude.{◌≡◌, refl, false, cond, ℕ, ℤ, pos, neg_ℤ, nat_abs, ◌≤ℤ◌}
use Rattle.std.proofs.Common.{ap, ⊎_elim, arith}
use Rattle.std.specs.Int.Signed.{le_z, lt_z}
use Rattle.whole.specs.Flags.{cond_ind}
use Rattle.whole.specs.Parts.{Within, abs_parts, abs_neg, one_part, le_of, of_le, eq_of}
use Rattle.whole.specs.Parts.{lt_le, le_refl, le_trans, b_range}
use Rattle.whole.specs.Difference.{at, lit, ⊖, le!, eq!, le?}
use Rattle.whole.specs.Tests.{le_yes, le_no, lt_no, no_lt}

unfoldable pub min_z : ℤ → ℤ → ℤ
min_z a b = cond (le_z a b) a b

unfoldable pub max_z : ℤ → ℤ → ℤ
max_z a b = cond (le_z a b) b a

unfoldable pub size_z : ℤ → ℤ
size_z a = pos (nat_abs a)

pub min_l : (a b : ℤ) → min_z a b ≤ℤ a
unfolding min_z
min_l a b = cond_ind (le_z a b) a b (λ x. x ≤ℤ a) (λ e. le_refl a) (λ e. lt_le (le_no a b e))

pub min_r : (a b : ℤ) → min_z a b ≤ℤ b
unfolding min_z
min_r a b = cond_ind (le_z a b) a b (λ x. x ≤ℤ b) (λ e. le_yes a b e) (λ e. le_refl b)

pub max_l : (a b : ℤ) → a ≤ℤ max_z a b
unfolding max_z
max_l a b = cond_ind (le_z a b) b a (λ x. a ≤ℤ x) (λ e. le_yes a b e) (λ e. le_refl a)

pub max_r : (a b : ℤ) → b ≤ℤ max_z a b
unfolding max_z
max_r a b = cond_ind (le_z a b) b a (λ x. b ≤ℤ x) (λ e. le_refl b) (λ e. lt_le (le_no a b e))

pub max_least : (a b c : ℤ) → a ≤ℤ c → b ≤ℤ c → max_z a b ≤ℤ c
unfolding max_z
max_least a b c h j = cond_ind (le_z a b) b a (λ x. x ≤ℤ c) (λ e. j) (λ e. h)

pub min_most : (a b c : ℤ) → c ≤ℤ a → c ≤ℤ b → c ≤ℤ min_z a b
unfolding min_z
min_most a b c h j = cond_ind (le_z a b) a b (λ x. c ≤ℤ x) (λ e. h) (λ e. j)

pub antisym : (a b : ℤ) → a ≤ℤ b → b ≤ℤ a → a ≡ b
antisym a b h j = eq_of a b (omega (arith, of_le h, of_le j))

pub max_of : (a b : ℤ) → b ≤ℤ a → max_z a b ≡ a
max_of a b h = antisym (max_z a b) a (max_least a b a (le_refl a) h) (max_l a b)

pub max_none : (a : ℤ) → pos 0 ≤ℤ a → max_z (pos 0) (neg_ℤ a) ≡ pos 0
unfolding max_z
max_none a h = cond_ind (le_z (pos 0) (neg_ℤ a)) (neg_ℤ a) (pos 0) (λ x. x ≡ pos 0)
    (λ e. eq! (⊖ (at a)) (lit 0) (omega (arith, of_le h, le? (lit 0) (⊖ (at a)) (le_yes (pos 0) (neg_ℤ a) e)))) (λ e. refl)

pub size_ge : (a : ℤ) → a ≤ℤ size_z a
unfolding size_z
size_ge a = le_of a (pos (nat_abs a)) (omega (arith, abs_parts a))

pub size_ge_neg : (a : ℤ) → neg_ℤ a ≤ℤ size_z a
unfolding size_z
size_ge_neg a = le! (⊖ (at a)) (lit (nat_abs a)) (omega (arith, abs_parts a))

pub size_nonneg : (a : ℤ) → pos 0 ≤ℤ size_z a
unfolding size_z
size_nonneg a = le_of (pos 0) (pos (nat_abs a)) (omega arith)

pub size_of : (a : ℤ) → pos 0 ≤ℤ a → size_z a ≡ a
unfolding size_z
size_of a h =
    eq_of (pos (nat_abs a)) a (⊎_elim (λ e. omega (arith, abs_parts a, of_le h)) (λ e. omega (arith, abs_parts a, of_le h)) (one_part a))

-- ---- with the signs changed
le_neg' : (a b : ℤ) → a ≤ℤ neg_ℤ b → b ≤ℤ neg_ℤ a
le_neg' a b h = le! (at b) (⊖ (at a)) (omega (arith, le? (at a) (⊖ (at b)) h))

neg_mono : (a b : ℤ) → a ≤ℤ b → neg_ℤ b ≤ℤ neg_ℤ a
neg_mono a b h = le! (⊖ (at b)) (⊖ (at a)) (omega (arith, of_le h))

pub min_neg : (a b : ℤ) → min_z (neg_ℤ a) (neg_ℤ b) ≡ neg_ℤ (max_z a b)
min_neg a b = let m = min_z (neg_ℤ a) (neg_ℤ b) in antisym m (neg_ℤ (max_z a b))
    (le_neg' (max_z a b) m (max_least a b (neg_ℤ m) (le_neg' m a (min_l (neg_ℤ a) (neg_ℤ b))) (le_neg' m b (min_r (neg_ℤ a) (neg_ℤ b)))))
    (min_most (neg_ℤ a) (neg_ℤ b) (neg_ℤ (max_z a b)) (neg_mono a (max_z a b) (max_l a b)) (neg_mono b (max_z a b) (max_r a b)))

pub max_comm : (a b : ℤ) → max_z a b ≡ max_z b a
max_comm a b =
    antisym (max_z a b) (max_z b a) (max_least a b (max_z b a) (max_r b a) (max_l b a)) (max_least b a (max_z a b) (max_r a b) (max_l a b))

pub max_swap : (x a b : ℤ) → max_z (max_z x a) b ≡ max_z (max_z x b) a
max_swap x a b = antisym (max_z (max_z x a) b) (max_z (max_z x b) a) (half x a b) (half x b a)
  where
    half : (x a b : ℤ) → max_z (max_z x a) b ≤ℤ max_z (max_z x b) a
    half x a b = max_least (max_z x a) b (max_z (max_z x b) a) (max_least x a (max_z (max_z x b) a) (le_trans (max_l x b) (max_l (max_z x b) a))
        (max_r (max_z x b) a)) (le_trans (max_r x b) (max_l (max_z x b) a))

pub size_neg : (a : ℤ) → size_z (neg_ℤ a) ≡ size_z a
unfolding size_z
size_neg a = ap pos (abs_neg a)

-- ---- bounds on choices
pub b_min : {A : ℕ} (a b : ℤ) → Within A a → Within A b → Within A (min_z a b)
unfolding min_z
b_min {A} a b p q = cond_ind (le_z a b) a b (Within A) (λ e. p) (λ e. q)

pub b_max : {A : ℕ} (a b : ℤ) → Within A a → Within A b → Within A (max_z a b)
unfolding max_z
b_max {A} a b p q = cond_ind (le_z a b) b a (Within A) (λ e. q) (λ e. p)

pub b_size : {A : ℕ} (a : ℤ) → Within A a → Within A (size_z a)
unfolding size_z
b_size a p = record { abs = p.abs }

-- ---- a number within m is not beyond it, and the other way
pub not_beyond : (m : ℕ) (x : ℤ) → Within m x → lt_z (pos m) (size_z x) ≡ false
unfolding size_z
not_beyond m x w = no_lt (pos m) (pos (nat_abs x)) (le_of (pos (nat_abs x)) (pos m) (omega (arith, w.abs)))

pub within_past : (m : ℕ) (x : ℤ) → lt_z (pos m) (size_z x) ≡ false → Within m x
within_past m x e =
    let s : size_z x ≤ℤ pos m = lt_no (pos m) (size_z x) e in
    b_range (le! (⊖ (lit m)) (at x) (omega (arith, le? (⊖ (at x)) (lit m) (le_trans (size_ge_neg x) s)))) (le_trans (size_ge x) s)
