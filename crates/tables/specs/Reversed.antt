-- A table from its last entry to its first.
-- Assumes nothing.
use Rattle.std.specs.Prelude.{◌≡◌, ℕ, zero, suc, ◌+◌, ◌-◌, length, get_or}
use Rattle.std.proofs.Common.{◌∙◌, ap, arith, get_or-append-add, ext_get_or}
use mathlib.Core.List.{List, [], ◌∷◌, ◌++◌, reverse, reverse-cons}
use Rattle.std.proofs.lemmas.List.{length-reverse}
use Rattle.std.proofs.Math.ListN.{get_or-append}

module _ {A : Type 0} (d : A) where
  -- entry i of the one is entry j of the other
  pub get_d_reverse : (l : List A) (i j : ℕ) → suc (i + j) ≡ length l → get_or (reverse l) i d ≡ get_or l j d
  get_d_reverse [] i j o = let z : ⊥ = omega arith in absurd z
  get_d_reverse (x ∷ l) i zero o =
      let e : i ≡ length (reverse l) + 0 = omega (arith, length-reverse l) in
      ap (λ (t : List A). get_or t i d) (reverse-cons x l) ∙ ap (λ (k : ℕ). get_or (reverse l ++ x ∷ []) k d) e
      ∙ get_or-append-add (reverse l) (x ∷ []) 0 d
  get_d_reverse (x ∷ l) i (suc j) o =
      ap (λ (t : List A). get_or t i d) (reverse-cons x l)
      ∙ get_or-append (reverse l) (x ∷ []) d i (omega (arith, length-reverse l)) ∙ get_d_reverse l i j (omega arith)

  pub reverse_twice : (l : List A) → reverse (reverse l) ≡ l
  reverse_twice l = let n = length-reverse l in ext_get_or d (reverse (reverse l)) l (length-reverse (reverse l) ∙ n)
      (λ i h. let m = length-reverse (reverse l) in let j = length l - suc i in
      get_d_reverse (reverse l) i j (omega arith) ∙ get_d_reverse l j i (omega arith))
