-- What a verdict says of the checks before it.
-- Assumes nothing.
use Rattle.std.specs.Prelude.{◌≡◌, refl, Bool, true, false, cond, ◌||◌, List, [], ◌∷◌, ◌++◌, ◌⊎◌, ℕ, zero, suc, T, eqb}
use Rattle.std.proofs.Common.{sym, ◌∙◌, subst, inl, inr}
use Rattle.std.proofs.Math.Dec.{eqb_refl}
use Rattle.whole.specs.Flags.{holds, or_l, or_r, clash}
use Rattle.rules.specs.Refusals.{any, Check, applies, verdict, Clear}

-- none of a list holds
abbrev pub None : List Bool → Type 0
None [] = Unit {0}
None (b ∷ bs) = (b ≡ false) × None bs

pub any_none : (bs : List Bool) → any bs ≡ false → None bs
unfolding any
any_none [] e = tt
any_none (b ∷ bs) e = (or_l b (any bs) e, any_none bs (or_r b (any bs) e))

-- so each of them fails
abbrev pub flag_at : List Bool → ℕ → Bool
flag_at [] i = false
flag_at (b ∷ bs) zero = b
flag_at (b ∷ bs) (suc i) = flag_at bs i

pub none_at : (bs : List Bool) → any bs ≡ false → (i : ℕ) → flag_at bs i ≡ false
unfolding any
none_at [] e i = refl
none_at (b ∷ bs) e zero = or_l b (any bs) e
none_at (b ∷ bs) e (suc i) = none_at bs (or_r b (any bs) e) i

-- one of a list holds
abbrev pub One : List Bool → Type 0
One [] = ⊥
One (b ∷ bs) = (b ≡ true) ⊎ One bs

pub any_one : (bs : List Bool) → any bs ≡ true → One bs
unfolding any
any_one [] e = clash e
any_one (b ∷ bs) e = go b refl e (any_one bs)
  where
    go : (a : Bool) → b ≡ a → (a || any bs) ≡ true → (any bs ≡ true → One bs) → (b ≡ true) ⊎ One bs
    go true d e f = inl d
    go false d e f = inr (f e)

-- none of them has the number k
abbrev pub other : ℕ → List Check → Bool
other k [] = true
other k (x ∷ xs) = cond (eqb x.no k) false (other k xs)

-- so a verdict of k passed them all
pub passed : (k : ℕ) (xs ys : List Check) → T (other k xs) → verdict (xs ++ ys) ≡ k → (Clear xs) × (verdict ys ≡ k)
unfolding verdict
passed k [] ys t e = (tt, e)
passed k (x ∷ xs) ys t e = go (eqb x.no k) (applies x) refl refl t e (passed k xs ys)
  where
    go : (a b : Bool) → eqb x.no k ≡ a → applies x ≡ b → T (cond a false (other k xs)) → cond b x.no (verdict (xs ++ ys)) ≡ k
        → (T (other k xs) → verdict (xs ++ ys) ≡ k → (Clear xs) × (verdict ys ≡ k)) → (Clear (x ∷ xs)) × (verdict ys ≡ k)
    go true b d f t e h = absurd t
    go false true d f t e h = clash (sym d ∙ holds (eqb x.no k) (subst (λ (m : ℕ). T (eqb x.no m)) e (eqb_refl x.no)))
    go false false d f t e h = let z = h t e in ((f, z.0), z.1)
