-- Lists of checks that agree at every place that they have give one number and one place.
-- Assumes nothing.
use Rattle.std.specs.Prelude.{◌≡◌, refl, Bool, cond, List, [], ◌∷◌, ◌++◌, ℕ, ◌<◌}
use Rattle.std.proofs.Common.{◌∙◌, ap}
use Rattle.tables.proofs.Some.{some_same, lowest_same}
use Rattle.rules.specs.Refusals.{Check, each, verdict, spot}
use Rattle.rules.specs.Found.{Found, at, found}

pub data Alike : List Check → List Check → Type 0 where
  end : Alike [] []
  and : (k n : ℕ) (p q : ℕ → Bool) (xs ys : List Check) → ((i : ℕ) → i < n → p i ≡ q i) → Alike xs ys
      → Alike (each k n p ∷ xs) (each k n q ∷ ys)

pub also : {k n : ℕ} {p q : ℕ → Bool} {xs ys : List Check} → ((i : ℕ) → i < n → p i ≡ q i) → Alike xs ys
    → Alike (each k n p ∷ xs) (each k n q ∷ ys)
also {k} {n} {p} {q} {xs} {ys} e a = and k n p q xs ys e a

pub alike_self : (xs : List Check) → Alike xs xs
alike_self [] = end
alike_self (x ∷ xs) = also (λ i l. refl) (alike_self xs)

pub alike_alike : {xs ys zs : List Check} → Alike xs ys → Alike ys zs → Alike xs zs
alike_alike end end = end
alike_alike (and k n p q xs ys e a) (and _ _ _ t _ zs f b) = and k n p t xs zs (λ i l. e i l ∙ f i l) (alike_alike a b)

pub alike_after : {xs ys us vs : List Check} → Alike xs ys → Alike us vs → Alike (xs ++ us) (ys ++ vs)
alike_after end b = b
alike_after {us = us} {vs} (and k n p q xs ys e a) b = and k n p q (xs ++ us) (ys ++ vs) e (alike_after a b)

pub same_found : {xs ys : List Check} → Alike xs ys → found xs ≡ found ys
unfolding verdict spot
same_found end = refl
same_found (and k n p q xs ys e a) = let rest = same_found a in let b = some_same p q n e in
    λ j. at (cond (b j) k (rest j).no) (cond (b j) (lowest_same p q n e j) (rest j).place)

pub same_number : {xs ys : List Check} → Alike xs ys → verdict xs ≡ verdict ys
same_number a = ap (λ (k : Found). k.no) (same_found a)
