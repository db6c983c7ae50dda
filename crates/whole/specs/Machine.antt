-- What the machine computes with i64. A signed local holds bits, so a need speaks of  to_z w64 (of_z w64 x)  for each local x:
-- what is read back from the bits.
-- An expression of the code stands here as data: what it is over ℤ (`ideal`), what the machine has (`raw`, `loc`:
-- each result is put into a local's bits and read back), and how large it can be (`lim`).
-- Where no step can leave i64, which computes (`safe`), the machine has the ideal value.
--     need ρ e tt : SFits w64 (raw ρ e)             what an operation asks
--     value ρ e tt : loc ρ e ≡ ideal ρ e            what a local holds
--     divisor ρ e tt h : 0 < of_z w64 (raw ρ e)      where h : pos 0 <ℤ ideal ρ e
-- Assumes nothing.
use Rattle.std.specs.Prelude.{◌≡◌, refl, List, [], ◌∷◌, Bool, true, false, not, ◌&&◌, ℕ, zero, suc, ◌+◌, ◌*◌, ◌/◌, ◌^◌, ◌<◌, ℤ, pos, negsuc, nat_abs, ◌+ℤ◌, ◌-ℤ◌, ◌*ℤ◌, ◌<ℤ◌}
use Rattle.std.proofs.Common.{sym, ◌∙◌, ap, ap₂, subst, arith, SFits, to_z, of_z}
use Rattle.std.proofs.lemmas.Bool.{not-true, not-false}
use lib.Dec.{T, ltb, lit≤}
use Rattle.std.specs.Int.Signed.{mag, nat_abs-le, quot_z}
use Rattle.std.specs.Int.{w32, w64}
use Rattle.std.proofs.lemmas.Int.{to_z-of_z}
use Rattle.std.proofs.Math.Facts.{sfits_widen}
use Rattle.whole.specs.Flags.{fst, snd}
use Rattle.whole.specs.Parts.{Within, b_add, b_sub, b_mul, b_lit, fit, of_lt}
use Rattle.whole.specs.Quotient.{b_quot, b_quot_by}

-- ---- the machine's number t is z, and z is within A of nought
pub record Got (A : ℕ) (t z : ℤ) : Type 0 where
  pub same : t ≡ z
  pub bound : Within A z

pub g_var : {A : ℕ} {x : ℤ} → SFits w64 x → Within A x → Got A (to_z w64 (of_z w64 x)) x
g_var {A} {x} f h = record { same = to_z-of_z w64 x f; bound = h }

pub g_lit : (z : ℤ) → Got (nat_abs z) z z
g_lit z = record { same = refl; bound = b_lit z }

pub g_add : {A B : ℕ} {t z s y : ℤ} → Got A t z → Got B s y → Got (A + B) (t +ℤ s) (z +ℤ y)
g_add a b = record { same = ap₂ ◌+ℤ◌ a.same b.same; bound = b_add a.bound b.bound }

pub g_sub : {A B : ℕ} {t z s y : ℤ} → Got A t z → Got B s y → Got (A + B) (t -ℤ s) (z -ℤ y)
g_sub a b = record { same = ap₂ ◌-ℤ◌ a.same b.same; bound = b_sub a.bound b.bound }

pub g_mul : {A B : ℕ} {t z s y : ℤ} → Got A t z → Got B s y → Got (A * B) (t *ℤ s) (z *ℤ y)
g_mul a b = record { same = ap₂ ◌*ℤ◌ a.same b.same; bound = b_mul a.bound b.bound }

pub g_quot : {A B : ℕ} {t z s y : ℤ} → Got A t z → Got B s y → Got A (quot_z t s) (quot_z z y)
g_quot {y} a b = record { same = ap₂ quot_z a.same b.same; bound = b_quot y a.bound }

-- another bound
pub g_in : {A B : ℕ} {t z : ℤ} → Got A t z → Within B z → Got B t z
g_in a h = record { same = a.same; bound = h }

pub g_fits : {A : ℕ} {t z : ℤ} → Got A t z → T (ltb A (2 ^ 63)) → SFits w64 t
g_fits {t} {z} a l = subst (λ (x : ℤ). SFits w64 x) (sym a.same) (fit a.bound l)

pub g_back : {A : ℕ} {t z : ℤ} → Got A t z → T (ltb A (2 ^ 63)) → Got A (to_z w64 (of_z w64 t)) z
g_back {t} a l = record { same = to_z-of_z w64 t (g_fits a l) ∙ a.same; bound = a.bound }

-- ---- a divisor's bits are not 0
pub bits_pos : {x : ℤ} → pos 0 <ℤ x → 0 < of_z w64 x
bits_pos {x = pos n} h = omega (arith, of_lt h)
bits_pos {x = negsuc n} h = absurd h.lt

-- ---- expressions of the code, as data
pub data X : Type 0 where
  v : ℕ → X
  k : ℤ → X
  ◌⊕◌ ◌⊝◌ ◌⊗◌ ◌⊘◌ : X → X → X

infixl 6 ◌⊕◌ ◌⊝◌
infixl 7 ◌⊗◌ ◌⊘◌
-- a parameter or a call's result
pub record Entry : Type 0 where
  pub val : ℤ
  pub most : ℕ
  pub fits : SFits w64 val
  pub inn : Within most val

abbrev pub entry : {A : ℕ} {x : ℤ} → SFits w64 x → Within A x → Entry
entry {A} {x} f h = record { val = x; most = A; fits = f; inn = h }

-- the same of a number whose size is known
abbrev pub sized : {A : ℕ} {x : ℤ} → Within A x → T (ltb A (2 ^ 63)) → Entry
sized h t = entry (fit h t) h

abbrev pub nil : Entry
nil = record { val = pos 0; most = 0; fits = record { sfits = lib.Dec.lit< tt }; inn = record { abs = lit≤ tt } }

abbrev pub nth : List Entry → ℕ → Entry
nth [] i = nil
nth (x ∷ ρ) zero = x
nth (x ∷ ρ) (suc i) = nth ρ i

abbrev pub ideal : List Entry → X → ℤ
ideal ρ (v i) = (nth ρ i).val
ideal ρ (k z) = z
ideal ρ (a ⊕ b) = ideal ρ a +ℤ ideal ρ b
ideal ρ (a ⊝ b) = ideal ρ a -ℤ ideal ρ b
ideal ρ (a ⊗ b) = ideal ρ a *ℤ ideal ρ b
ideal ρ (a ⊘ b) = quot_z (ideal ρ a) (ideal ρ b)

abbrev pub rd : ℤ → ℤ
rd x = to_z w64 (of_z w64 x)

abbrev pub loc : List Entry → X → ℤ
loc ρ (v i) = rd (nth ρ i).val
loc ρ (k z) = z
loc ρ (a ⊕ b) = rd (loc ρ a +ℤ loc ρ b)
loc ρ (a ⊝ b) = rd (loc ρ a -ℤ loc ρ b)
loc ρ (a ⊗ b) = rd (loc ρ a *ℤ loc ρ b)
loc ρ (a ⊘ b) = rd (quot_z (loc ρ a) (loc ρ b))

abbrev pub raw : List Entry → X → ℤ
raw ρ (v i) = (nth ρ i).val
raw ρ (k z) = z
raw ρ (a ⊕ b) = loc ρ a +ℤ loc ρ b
raw ρ (a ⊝ b) = loc ρ a -ℤ loc ρ b
raw ρ (a ⊗ b) = loc ρ a *ℤ loc ρ b
raw ρ (a ⊘ b) = quot_z (loc ρ a) (loc ρ b)

-- a quotient by a literal is that much smaller
abbrev pub lim_q : ℕ → X → ℕ
lim_q n (v i) = n
lim_q n (k z) = n / nat_abs z
lim_q n (a ⊕ b) = n
lim_q n (a ⊝ b) = n
lim_q n (a ⊗ b) = n
lim_q n (a ⊘ b) = n

abbrev pub lim : List Entry → X → ℕ
lim ρ (v i) = (nth ρ i).most
lim ρ (k z) = nat_abs z
lim ρ (a ⊕ b) = lim ρ a + lim ρ b
lim ρ (a ⊝ b) = lim ρ a + lim ρ b
lim ρ (a ⊗ b) = lim ρ a * lim ρ b
lim ρ (a ⊘ b) = lim_q (lim ρ a) b

-- every result is below 2 ^ 63: at numerals a test that computes
abbrev pub safe : List Entry → X → Bool
safe ρ (v i) = true
safe ρ (k z) = true
safe ρ (a ⊕ b) = ltb (lim ρ a + lim ρ b) (2 ^ 63) && (safe ρ a && safe ρ b)
safe ρ (a ⊝ b) = ltb (lim ρ a + lim ρ b) (2 ^ 63) && (safe ρ a && safe ρ b)
safe ρ (a ⊗ b) = ltb (lim ρ a * lim ρ b) (2 ^ 63) && (safe ρ a && safe ρ b)
safe ρ (a ⊘ b) = ltb (lim_q (lim ρ a) b) (2 ^ 63) && (safe ρ a && safe ρ b)

-- the test of the result, and those of the parts
split : (n : ℕ) (y z : Bool) → T (ltb n (2 ^ 63) && (y && z)) → T (ltb n (2 ^ 63)) × (T y × T z)
split n y z t = let u : T (y && z) = snd (ltb n (2 ^ 63)) (y && z) t in (fst (ltb n (2 ^ 63)) (y && z) t, (fst y z u, snd y z u))

quot_got : (ρ : List Entry) (b : X) {A B : ℕ} {t z s : ℤ} → Got A t z → Got B s (ideal ρ b)
    → Got (lim_q A b) (quot_z t s) (quot_z z (ideal ρ b))
quot_got ρ (v i) x y = g_quot x y
quot_got ρ (k c) x y = g_in (g_quot x y) (b_quot_by c x.bound)
quot_got ρ (a ⊕ b) x y = g_quot x y
quot_got ρ (a ⊝ b) x y = g_quot x y
quot_got ρ (a ⊗ b) x y = g_quot x y
quot_got ρ (a ⊘ b) x y = g_quot x y

pub got : (ρ : List Entry) (e : X) → T (safe ρ e) → Got (lim ρ e) (loc ρ e) (ideal ρ e)
got ρ (v i) t = g_var (nth ρ i).fits (nth ρ i).inn
got ρ (k z) t = g_lit z
got ρ (a ⊕ b) t = let p = split (lim ρ a + lim ρ b) (safe ρ a) (safe ρ b) t in g_back (g_add (got ρ a p.1.0) (got ρ b p.1.1)) p.0
got ρ (a ⊝ b) t = let p = split (lim ρ a + lim ρ b) (safe ρ a) (safe ρ b) t in g_back (g_sub (got ρ a p.1.0) (got ρ b p.1.1)) p.0
got ρ (a ⊗ b) t = let p = split (lim ρ a * lim ρ b) (safe ρ a) (safe ρ b) t in g_back (g_mul (got ρ a p.1.0) (got ρ b p.1.1)) p.0
got ρ (a ⊘ b) t =
    let p = split (lim_q (lim ρ a) b) (safe ρ a) (safe ρ b) t in
    g_back (quot_got ρ b (got ρ a p.1.0) (got ρ b p.1.1)) p.0

pub value : (ρ : List Entry) (e : X) → T (safe ρ e) → loc ρ e ≡ ideal ρ e
value ρ e t = (got ρ e t).same

raw_got : (ρ : List Entry) (e : X) → T (safe ρ e) → Got (lim ρ e) (raw ρ e) (ideal ρ e)
raw_got ρ (v i) t = record { same = refl; bound = (nth ρ i).inn }
raw_got ρ (k z) t = g_lit z
raw_got ρ (a ⊕ b) t = let p = split (lim ρ a + lim ρ b) (safe ρ a) (safe ρ b) t in g_add (got ρ a p.1.0) (got ρ b p.1.1)
raw_got ρ (a ⊝ b) t = let p = split (lim ρ a + lim ρ b) (safe ρ a) (safe ρ b) t in g_sub (got ρ a p.1.0) (got ρ b p.1.1)
raw_got ρ (a ⊗ b) t = let p = split (lim ρ a * lim ρ b) (safe ρ a) (safe ρ b) t in g_mul (got ρ a p.1.0) (got ρ b p.1.1)
raw_got ρ (a ⊘ b) t = let p = split (lim_q (lim ρ a) b) (safe ρ a) (safe ρ b) t in quot_got ρ b (got ρ a p.1.0) (got ρ b p.1.1)

pub need : (ρ : List Entry) (e : X) → T (safe ρ e && ltb (lim ρ e) (2 ^ 63)) → SFits w64 (raw ρ e)
need ρ e t = g_fits (raw_got ρ e (fst (safe ρ e) (ltb (lim ρ e) (2 ^ 63)) t)) (snd (safe ρ e) (ltb (lim ρ e) (2 ^ 63)) t)

-- the bits of a divisor are not 0
pub divisor : (ρ : List Entry) (e : X) → T (safe ρ e) → pos 0 <ℤ ideal ρ e → 0 < of_z w64 (raw ρ e)
divisor ρ e t h = bits_pos (subst (λ (x : ℤ). pos 0 <ℤ x) (sym (raw_got ρ e t).same) h)

-- what a function said of a local, where the code goes on by its negation
module _ (f : ℤ → Bool) {x : ℤ} {b : Bool} (h : SFits w64 x) (e : b ≡ f (to_z w64 (of_z w64 x))) where
  pub said_no : not b ≡ true → f x ≡ false
  said_no t = sym (e ∙ ap f (to_z-of_z w64 x h)) ∙ not-true b t

  pub said_yes : not b ≡ false → f x ≡ true
  said_yes t = sym (e ∙ ap f (to_z-of_z w64 x h)) ∙ not-false b t

-- ---- numbers of lent tables, which are i32 and u16: `h` is what the read's `.given` says
-- a number that the machine wrote and read back
pub back : {z : ℤ} → mag z < 2 ^ 63 → to_z w64 (of_z w64 z) ≡ z
back {z} h = to_z-of_z w64 z (record { sfits = h })

pub back64 : {z v : ℤ} → mag z < 2 ^ 63 → z ≡ v → to_z w64 (of_z w64 z) ≡ v
back64 h e = back h ∙ e

-- one that is a number within a size that fits
pub back_in : {z v : ℤ} {A : ℕ} → z ≡ v → Within A v → T (ltb A (2 ^ 63)) → to_z w64 (of_z w64 z) ≡ v
back_in e w t = back64 (g_fits (record { same = e; bound = w }) t).sfits e

-- `x as i64` of an i32: the cast's need, and the value
pub widens : (z : ℤ) → mag z < 2 ^ 31 → SFits w64 (to_z w32 (of_z w32 z))
widens z h = let f : SFits w32 z = record { sfits = h } in rw (to_z-of_z w32 z f) (sfits_widen tt f)

pub widened : {z : ℤ} → mag z < 2 ^ 31 → to_z w64 (of_z w64 (to_z w32 (of_z w32 z))) ≡ z
widened {z} h = let f : SFits w32 z = record { sfits = h } in rw (to_z-of_z w32 z f) (to_z-of_z w64 z (sfits_widen {w = w32} tt f))

pub read32 : (z : ℤ) → mag z < 2 ^ 31 → to_z w32 (of_z w32 z) ≡ z
read32 z h = to_z-of_z w32 z (record { sfits = h })

-- how large it is; and the cast's result, among the numbers that the code computes with
pub within32 : {z : ℤ} → mag z < 2 ^ 31 → Within 2147483648 z
within32 {z} h = record { abs = nat_abs-le z h }

pub wide_in : (z : ℤ) → mag z < 2 ^ 31 → Within 2147483648 (to_z w32 (of_z w32 z))
wide_in z h = rw (to_z-of_z w32 z (record { sfits = h })) (within32 h)

abbrev pub cast32 : (z : ℤ) → mag z < 2 ^ 31 → Entry
cast32 z h = entry (widens z h) (wide_in z h)

-- `x as i32` of an i64
pub narrows : (z : ℤ) → mag z < 2 ^ 31 → SFits w32 (to_z w64 (of_z w64 z))
narrows z h = rw (back {z = z} (omega arith)) (record { sfits = h })

pub narrowed : {z : ℤ} → mag z < 2 ^ 31 → to_z w32 (of_z w32 (to_z w64 (of_z w64 z))) ≡ z
narrowed {z} h = rw (back {z = z} (omega arith)) (to_z-of_z w32 z (record { sfits = h }))

-- `x as i64` of an unsigned number
pub as_whole : (x : ℕ) → x < 2 ^ 63 → to_z w64 x ≡ pos x
as_whole x h = to_z-of_z w64 (pos x) (record { sfits = h })
