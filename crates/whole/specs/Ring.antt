-- Identities of commutative rings over ℤ, by computation: two expressions over atoms are equal where the normal form of
-- their difference has only zeros.
--     solve (x ∷ y ∷ []) (v 0 ⊗ v 1) (v 1 ⊗ v 0) tt : x *ℤ y ≡ y *ℤ x
-- Assumes nothing.
use Rattle.std.specs.Prelude.{◌≡◌, refl, List, [], ◌∷◌, Bool, true, false, ◌&&◌, ℕ, zero, suc, T, leb, eqb, ℤ, pos, negsuc, neg_ℤ, ◌+ℤ◌, ◌*ℤ◌}
use Rattle.std.proofs.Common.{sym, ◌∙◌, ap, ap₂, arith, eqb→eq}
use Rattle.std.proofs.Math.IntN.{+ℤ_idl}
use Rattle.whole.specs.Flags.{fst, snd}
use Rattle.whole.specs.Difference.{at, lit, nlit, ◌⊞◌, ◌⊟◌, ⊖, ◌⊠◌, eq!, eq?}

pub data E : Type 0 where
  v : ℕ → E
  k : ℤ → E
  ◌⊕◌ : E → E → E
  ◌⊗◌ : E → E → E
  neg : E → E

infixl 6 ◌⊕◌ ◌⊝◌
infixl 7 ◌⊗◌
abbrev pub ◌⊝◌ : E → E → E
a ⊝ b = a ⊕ neg b

abbrev pub nth : List ℤ → ℕ → ℤ
nth [] i = pos 0
nth (x ∷ ρ) zero = x
nth (x ∷ ρ) (suc i) = nth ρ i

abbrev pub den : List ℤ → E → ℤ
den ρ (v i) = nth ρ i
den ρ (k z) = z
den ρ (a ⊕ b) = den ρ a +ℤ den ρ b
den ρ (a ⊗ b) = den ρ a *ℤ den ρ b
den ρ (neg a) = neg_ℤ (den ρ a)

-- ---- polynomials: sums of multiples of monomials, each a sorted list of atoms
abbrev pub mono : List ℤ → List ℕ → ℤ
mono ρ [] = pos 1
mono ρ (i ∷ m) = nth ρ i *ℤ mono ρ m

abbrev pub pick_l : Bool → List ℕ → List ℕ → List ℕ
pick_l true x y = x
pick_l false x y = y

abbrev pub ins : ℕ → List ℕ → List ℕ
ins i [] = i ∷ []
ins i (j ∷ m) = pick_l (leb i j) (i ∷ j ∷ m) (j ∷ ins i m)

abbrev pub join : List ℕ → List ℕ → List ℕ
join [] n = n
join (i ∷ m) n = ins i (join m n)

abbrev pub eq_l : List ℕ → List ℕ → Bool
eq_l [] [] = true
eq_l [] (y ∷ n) = false
eq_l (x ∷ m) [] = false
eq_l (x ∷ m) (y ∷ n) = eqb x y && eq_l m n

pub data Poly : Type 0 where
  none : Poly
  more : ℤ → List ℕ → Poly → Poly

abbrev pub total : List ℤ → Poly → ℤ
total ρ none = pos 0
total ρ (more c m s) = c *ℤ mono ρ m +ℤ total ρ s

abbrev pub pick_p : Bool → Poly → Poly → Poly
pick_p true x y = x
pick_p false x y = y

abbrev pub put : ℤ → List ℕ → Poly → Poly
put c m none = more c m none
put c m (more d n s) = pick_p (eq_l m n) (more (c +ℤ d) n s) (more d n (put c m s))

abbrev pub both : Poly → Poly → Poly
both none t = t
both (more c m s) t = put c m (both s t)

abbrev pub scale : ℤ → List ℕ → Poly → Poly
scale c m none = none
scale c m (more d n s) = put (c *ℤ d) (join m n) (scale c m s)

abbrev pub times : Poly → Poly → Poly
times none t = none
times (more c m s) t = both (scale c m t) (times s t)

abbrev pub flat : E → Poly
flat (v i) = more (pos 1) (i ∷ []) none
flat (k z) = more z [] none
flat (a ⊕ b) = both (flat a) (flat b)
flat (a ⊗ b) = times (flat a) (flat b)
flat (neg a) = scale (negsuc 0) [] (flat a)

abbrev pub IsZ : ℤ → Type 0 → Type 0
IsZ (pos zero) X = X
IsZ (pos (suc n)) X = ⊥
IsZ (negsuc n) X = ⊥

abbrev pub Zero : Poly → Type 0
Zero none = Unit {0}
Zero (more c m s) = IsZ c (Zero s)

-- ---- soundness
swap : (x y z : ℤ) → x +ℤ (y +ℤ z) ≡ y +ℤ (x +ℤ z)
swap x y z = eq! (at x ⊞ (at y ⊞ at z)) (at y ⊞ (at x ⊞ at z)) (omega arith)

mswap : (x y z : ℤ) → x *ℤ (y *ℤ z) ≡ y *ℤ (x *ℤ z)
mswap x y z = eq! (at x ⊠ (at y ⊠ at z)) (at y ⊠ (at x ⊠ at z)) (omega arith)

massoc : (x y z : ℤ) → x *ℤ (y *ℤ z) ≡ (x *ℤ y) *ℤ z
massoc x y z = eq! (at x ⊠ (at y ⊠ at z)) (at x ⊠ at y ⊠ at z) (omega arith)

one_m : (x : ℤ) → pos 1 *ℤ x ≡ x
one_m x = eq! (lit 1 ⊠ at x) (at x) (omega arith)

gather : (c d m s : ℤ) → (c +ℤ d) *ℤ m +ℤ s ≡ c *ℤ m +ℤ (d *ℤ m +ℤ s)
gather c d m s = eq! ((at c ⊞ at d) ⊠ at m ⊞ at s) (at c ⊠ at m ⊞ (at d ⊠ at m ⊞ at s)) (omega arith)

mono_pick : (b : Bool) (x y : List ℕ) (ρ : List ℤ) (z : ℤ) → mono ρ x ≡ z → mono ρ y ≡ z → mono ρ (pick_l b x y) ≡ z
mono_pick true x y ρ z p q = p
mono_pick false x y ρ z p q = q

mono_ins : (ρ : List ℤ) (i : ℕ) (m : List ℕ) → mono ρ (ins i m) ≡ nth ρ i *ℤ mono ρ m
mono_ins ρ i [] = refl
mono_ins ρ i (j ∷ m) = mono_pick (leb i j) (i ∷ j ∷ m) (j ∷ ins i m) ρ (nth ρ i *ℤ (nth ρ j *ℤ mono ρ m)) refl
    (ap (λ (t : ℤ). nth ρ j *ℤ t) (mono_ins ρ i m) ∙ mswap (nth ρ j) (nth ρ i) (mono ρ m))

mono_join : (ρ : List ℤ) (m n : List ℕ) → mono ρ (join m n) ≡ mono ρ m *ℤ mono ρ n
mono_join ρ [] n = sym (one_m (mono ρ n))
mono_join ρ (i ∷ m) n = mono_ins ρ i (join m n) ∙ ap (λ (t : ℤ). nth ρ i *ℤ t) (mono_join ρ m n) ∙ massoc (nth ρ i) (mono ρ m) (mono ρ n)

eq_l_eq : (m n : List ℕ) → T (eq_l m n) → m ≡ n
eq_l_eq [] [] t = refl
eq_l_eq [] (y ∷ n) t = absurd t
eq_l_eq (x ∷ m) [] t = absurd t
eq_l_eq (x ∷ m) (y ∷ n) t = ap₂ ◌∷◌ (eqb→eq x y (fst (eqb x y) (eq_l m n) t)) (eq_l_eq m n (snd (eqb x y) (eq_l m n) t))

total_pick : (b : Bool) (x y : Poly) (ρ : List ℤ) (z : ℤ) → (T b → total ρ x ≡ z) → total ρ y ≡ z → total ρ (pick_p b x y) ≡ z
total_pick true x y ρ z p q = p tt
total_pick false x y ρ z p q = q

total_put : (ρ : List ℤ) (c : ℤ) (m : List ℕ) (s : Poly) → total ρ (put c m s) ≡ c *ℤ mono ρ m +ℤ total ρ s
total_put ρ c m none = refl
total_put ρ c m (more d n s) =
    total_pick (eq_l m n) (more (c +ℤ d) n s) (more d n (put c m s)) ρ (c *ℤ mono ρ m +ℤ (d *ℤ mono ρ n +ℤ total ρ s))
    (λ t. gather c d (mono ρ n) (total ρ s) ∙ ap (λ (l : List ℕ). c *ℤ mono ρ l +ℤ (d *ℤ mono ρ n +ℤ total ρ s)) (sym (eq_l_eq m n t)))
    (ap (λ (t : ℤ). d *ℤ mono ρ n +ℤ t) (total_put ρ c m s) ∙ swap (d *ℤ mono ρ n) (c *ℤ mono ρ m) (total ρ s))

total_both : (ρ : List ℤ) (s t : Poly) → total ρ (both s t) ≡ total ρ s +ℤ total ρ t
total_both ρ none t = sym (+ℤ_idl (total ρ t))
total_both ρ (more c m s) t =
    total_put ρ c m (both s t) ∙ ap (λ (x : ℤ). c *ℤ mono ρ m +ℤ x) (total_both ρ s t) ∙ assoc (c *ℤ mono ρ m) (total ρ s) (total ρ t)
  where
    assoc : (x y z : ℤ) → x +ℤ (y +ℤ z) ≡ x +ℤ y +ℤ z
    assoc x y z = eq! (at x ⊞ (at y ⊞ at z)) (at x ⊞ at y ⊞ at z) (omega arith)

total_scale : (ρ : List ℤ) (c : ℤ) (m : List ℕ) (s : Poly) → total ρ (scale c m s) ≡ c *ℤ mono ρ m *ℤ total ρ s
total_scale ρ c m none = eq! (lit 0) (at c ⊠ at (mono ρ m) ⊠ lit 0) (omega arith)
total_scale ρ c m (more d n s) = total_put ρ (c *ℤ d) (join m n) (scale c m s)
    ∙ ap₂ (λ (x y : ℤ). c *ℤ d *ℤ x +ℤ y) (mono_join ρ m n) (total_scale ρ c m s) ∙ step c d (mono ρ m) (mono ρ n) (total ρ s)
  where
    step : (c d m n s : ℤ) → c *ℤ d *ℤ (m *ℤ n) +ℤ c *ℤ m *ℤ s ≡ c *ℤ m *ℤ (d *ℤ n +ℤ s)
    step c d m n s = ap₂ ◌+ℤ◌ (mid c d m n) refl ∙ dist (c *ℤ m) (d *ℤ n) s
      where
        mid : (c d m n : ℤ) → c *ℤ d *ℤ (m *ℤ n) ≡ c *ℤ m *ℤ (d *ℤ n)
        mid c d m n = sym (massoc c d (m *ℤ n)) ∙ ap (λ (t : ℤ). c *ℤ t) (mswap d m n) ∙ massoc c m (d *ℤ n)

        dist : (a b c : ℤ) → a *ℤ b +ℤ a *ℤ c ≡ a *ℤ (b +ℤ c)
        dist a b c = eq! (at a ⊠ at b ⊞ at a ⊠ at c) (at a ⊠ (at b ⊞ at c)) (omega arith)

total_times : (ρ : List ℤ) (s t : Poly) → total ρ (times s t) ≡ total ρ s *ℤ total ρ t
total_times ρ none t = eq! (lit 0) (lit 0 ⊠ at (total ρ t)) (omega arith)
total_times ρ (more c m s) t = total_both ρ (scale c m t) (times s t) ∙ ap₂ ◌+ℤ◌ (total_scale ρ c m t) (total_times ρ s t)
    ∙ dist (c *ℤ mono ρ m) (total ρ s) (total ρ t)
  where
    dist : (a b c : ℤ) → a *ℤ c +ℤ b *ℤ c ≡ (a +ℤ b) *ℤ c
    dist a b c = eq! (at a ⊠ at c ⊞ at b ⊠ at c) ((at a ⊞ at b) ⊠ at c) (omega arith)

flat_sound : (ρ : List ℤ) (e : E) → total ρ (flat e) ≡ den ρ e
flat_sound ρ (v i) = eq! (lit 1 ⊠ (at (nth ρ i) ⊠ lit 1) ⊞ lit 0) (at (nth ρ i)) (omega arith)
flat_sound ρ (k z) = eq! (at z ⊠ lit 1 ⊞ lit 0) (at z) (omega arith)
flat_sound ρ (a ⊕ b) = total_both ρ (flat a) (flat b) ∙ ap₂ ◌+ℤ◌ (flat_sound ρ a) (flat_sound ρ b)
flat_sound ρ (a ⊗ b) = total_times ρ (flat a) (flat b) ∙ ap₂ ◌*ℤ◌ (flat_sound ρ a) (flat_sound ρ b)
flat_sound ρ (neg a) = total_scale ρ (negsuc 0) [] (flat a) ∙ minus (total ρ (flat a)) ∙ ap neg_ℤ (flat_sound ρ a)
  where
    minus : (x : ℤ) → negsuc 0 *ℤ pos 1 *ℤ x ≡ neg_ℤ x
    minus x = eq! (nlit 0 ⊠ lit 1 ⊠ at x) (⊖ (at x)) (omega arith)

zero_of : (ρ : List ℤ) (s : Poly) → Zero s → total ρ s ≡ pos 0
zero_of ρ none z = refl
zero_of ρ (more (pos zero) m s) z = ap₂ ◌+ℤ◌ (nil (mono ρ m)) (zero_of ρ s z)
  where
    nil : (x : ℤ) → pos 0 *ℤ x ≡ pos 0
    nil x = eq! (lit 0 ⊠ at x) (lit 0) (omega arith)
zero_of ρ (more (pos (suc n)) m s) z = absurd z
zero_of ρ (more (negsuc n) m s) z = absurd z

pub solve : (ρ : List ℤ) (a b : E) → Zero (flat (a ⊝ b)) → den ρ a ≡ den ρ b
solve ρ a b z = eq! (at (den ρ a)) (at (den ρ b))
    (omega (arith, eq? (at (den ρ a) ⊟ at (den ρ b)) (lit 0) (sym (flat_sound ρ (a ⊝ b)) ∙ zero_of ρ (flat (a ⊝ b)) z)))
