-- An integer as a difference of two naturals, p - n, carried through sums and products: what a statement about integers says of naturals.
--     at z, lit k, nlit k, nonneg h, nonpos h     an atom, a literal, an atom of known sign
--     ⊞ ⊟ ⊠ ⊖                                     the operations
--     le! lt! eq!                                 prove an order or an equation of integers by one of naturals, which `omega` proves
--     le? lt? eq?                                 what an order or an equation of integers says of naturals, for `omega`'s list
--     cross h k                                   of x ≤ y and z ≤ w that (y - x) * (w - z) is not negative, for `omega`'s list
-- Assumes nothing.
use Rattle.std.specs.Prelude.{◌≡◌, refl, ℕ, suc, ◌+◌, ◌*◌, ◌≤◌, ◌<◌, ℤ, pos, negsuc, neg_ℤ, ◌+ℤ◌, ◌-ℤ◌, ◌*ℤ◌, ◌≤ℤ◌, ◌<ℤ◌}
use Rattle.std.proofs.Common.{ap, arith}
use Rattle.whole.specs.Parts.{Within, b_range, range_b, up, dn, cross, add_parts, up_mul, dn_mul}
use Rattle.whole.specs.Parts.{up_neg, dn_neg, le_of, of_le, lt_of, of_lt, eq_of, of_eq}

-- z is p - n. The field is private, so that `omega` does not read it of each Rep in reach
pub record Is (z : ℤ) (p n : ℕ) : Type 0 where
  eqn : up z + n ≡ p + dn z

pub record Rep (z : ℤ) : Type 0 where
  pub p : ℕ
  pub n : ℕ
  pub is : Is z p n

pub at_is : (z : ℤ) → Is z (up z) (dn z)
at_is z = record { eqn = refl }

abbrev pub at : (z : ℤ) → Rep z
at z = record { p = up z; n = dn z; is = at_is z }

pub lit_is : (k : ℕ) → Is (pos k) k 0
lit_is k = record { eqn = refl }

abbrev pub lit : (k : ℕ) → Rep (pos k)
lit k = record { p = k; n = 0; is = lit_is k }

pub nlit_is : (k : ℕ) → Is (negsuc k) 0 (suc k)
nlit_is k = record { eqn = refl }

abbrev pub nlit : (k : ℕ) → Rep (negsuc k)
nlit k = record { p = 0; n = suc k; is = nlit_is k }

pub add_is : {a b : ℤ} {pa na pb nb : ℕ} → Is a pa na → Is b pb nb → Is (a +ℤ b) (pa + pb) (na + nb)
add_is {a} {b} h k = record { eqn = omega (arith, h.eqn, k.eqn, add_parts a b) }

pub neg_is : {a : ℤ} {pa na : ℕ} → Is a pa na → Is (neg_ℤ a) na pa
neg_is {a} h = record { eqn = omega (arith, h.eqn, up_neg a, dn_neg a) }

mul_is' : (ua da ub db pa na pb nb : ℕ) → ua + na ≡ pa + da → ub + nb ≡ pb + db
    → (ua * ub + da * db) + (pa * nb + na * pb) ≡ (pa * pb + na * nb) + (ua * db + da * ub)
mul_is' ua da ub db pa na pb nb h k =
    omega (arith, ap (λ (t : ℕ). t * ub) h, ap (λ (t : ℕ). t * db) h, ap (λ (t : ℕ). t * pa) k, ap (λ (t : ℕ). t * na) k)

pub mul_is : {a b : ℤ} {pa na pb nb : ℕ} → Is a pa na → Is b pb nb → Is (a *ℤ b) (pa * pb + na * nb) (pa * nb + na * pb)
mul_is {a} {b} {pa} {na} {pb} {nb} h k =
    record { eqn = omega (arith, up_mul a b, dn_mul a b, mul_is' (up a) (dn a) (up b) (dn b) pa na pb nb h.eqn k.eqn) }

infixl 6 ◌⊞◌ ◌⊟◌
infixl 7 ◌⊠◌
abbrev pub ◌⊞◌ : {a b : ℤ} → Rep a → Rep b → Rep (a +ℤ b)
x ⊞ y = record { p = x.p + y.p; n = x.n + y.n; is = add_is x.is y.is }

abbrev pub ⊖ : {a : ℤ} → Rep a → Rep (neg_ℤ a)
⊖ x = record { p = x.n; n = x.p; is = neg_is x.is }

abbrev pub ◌⊟◌ : {a b : ℤ} → Rep a → Rep b → Rep (a -ℤ b)
x ⊟ y = x ⊞ ⊖ y

abbrev pub ◌⊠◌ : {a b : ℤ} → Rep a → Rep b → Rep (a *ℤ b)
x ⊠ y = record { p = x.p * y.p + x.n * y.n; n = x.p * y.n + x.n * y.p; is = mul_is x.is y.is }

-- ---- into naturals, and back
pub le! : {a b : ℤ} (x : Rep a) (y : Rep b) → x.p + y.n ≤ y.p + x.n → a ≤ℤ b
le! {a} {b} x y h = le_of a b (omega (arith, x.is.eqn, y.is.eqn))

pub lt! : {a b : ℤ} (x : Rep a) (y : Rep b) → x.p + y.n < y.p + x.n → a <ℤ b
lt! {a} {b} x y h = lt_of a b (omega (arith, x.is.eqn, y.is.eqn))

pub eq! : {a b : ℤ} (x : Rep a) (y : Rep b) → x.p + y.n ≡ y.p + x.n → a ≡ b
eq! {a} {b} x y h = eq_of a b (omega (arith, x.is.eqn, y.is.eqn))

pub le? : {a b : ℤ} (x : Rep a) (y : Rep b) → a ≤ℤ b → x.p + y.n ≤ y.p + x.n
le? x y h = omega (arith, x.is.eqn, y.is.eqn, of_le h)

pub lt? : {a b : ℤ} (x : Rep a) (y : Rep b) → a <ℤ b → x.p + y.n < y.p + x.n
lt? x y h = omega (arith, x.is.eqn, y.is.eqn, of_lt h)

pub eq? : {a b : ℤ} (x : Rep a) (y : Rep b) → a ≡ b → x.p + y.n ≡ y.p + x.n
eq? x y h = omega (arith, x.is.eqn, y.is.eqn, of_eq h)

-- ---- an integer of known sign is one natural: fewer products for `omega` to multiply out (it takes 64 monomials)
pub nonneg_is : (z : ℤ) → pos 0 ≤ℤ z → Is z (up z) 0
nonneg_is (pos n) h = record { eqn = refl }
nonneg_is (negsuc n) h = absurd h.le

pub nonpos_is : (z : ℤ) → z ≤ℤ pos 0 → Is z 0 (dn z)
nonpos_is (pos n) h = record { eqn = omega (arith, of_le h) }
nonpos_is (negsuc n) h = record { eqn = refl }

abbrev pub nonneg : {z : ℤ} → pos 0 ≤ℤ z → Rep z
nonneg {z} h = record { p = up z; n = 0; is = nonneg_is z h }

abbrev pub nonpos : {z : ℤ} → z ≤ℤ pos 0 → Rep z
nonpos {z} h = record { p = 0; n = dn z; is = nonpos_is z h }

pub mul_nonneg : (a b : ℤ) → pos 0 ≤ℤ a → pos 0 ≤ℤ b → pos 0 ≤ℤ (a *ℤ b)
mul_nonneg a b h k = le! (lit 0) (at a ⊠ at b) (omega (arith, cross (of_le h) (of_le k)))

-- ---- sums and products with nought
pub plus_none : (a : ℤ) → a +ℤ pos 0 ≡ a
plus_none a = eq! (at a ⊞ lit 0) (at a) (omega arith)

pub times_none : (a : ℤ) → a *ℤ pos 0 ≡ pos 0
times_none a = eq! (at a ⊠ lit 0) (lit 0) (omega arith)

pub none_times : (a : ℤ) → pos 0 *ℤ a ≡ pos 0
none_times a = eq! (lit 0 ⊠ at a) (lit 0) (omega arith)

-- ---- sums and differences of numbers with their signs changed
pub neg_add : (a b : ℤ) → neg_ℤ a +ℤ neg_ℤ b ≡ neg_ℤ (a +ℤ b)
neg_add a b = eq! (⊖ (at a) ⊞ ⊖ (at b)) (⊖ (at a ⊞ at b)) (omega arith)

pub neg_sub : (a b : ℤ) → neg_ℤ a -ℤ neg_ℤ b ≡ neg_ℤ (a -ℤ b)
neg_sub a b = eq! (⊖ (at a) ⊟ ⊖ (at b)) (⊖ (at a ⊟ at b)) (omega arith)

pub sub_neg : (a b : ℤ) → a -ℤ neg_ℤ b ≡ a +ℤ b
sub_neg a b = eq! (at a ⊟ ⊖ (at b)) (at a ⊞ at b) (omega arith)

pub neg_less : (a b : ℤ) → neg_ℤ a -ℤ b ≡ neg_ℤ (a +ℤ b)
neg_less a b = eq! (⊖ (at a) ⊟ at b) (⊖ (at a ⊞ at b)) (omega arith)

pub neg_more : (a b : ℤ) → neg_ℤ a +ℤ b ≡ neg_ℤ (a -ℤ b)
neg_more a b = eq! (⊖ (at a) ⊞ at b) (⊖ (at a ⊟ at b)) (omega arith)

pub sub_swap : (a b : ℤ) → a -ℤ b ≡ neg_ℤ (b -ℤ a)
sub_swap a b = eq! (at a ⊟ at b) (⊖ (at b ⊟ at a)) (omega arith)

-- ---- the difference of two that are not below nought is no larger than the larger
pub b_less : {A : ℕ} (a b : ℤ) → pos 0 ≤ℤ a → pos 0 ≤ℤ b → Within A a → Within A b → Within A (a -ℤ b)
b_less {A} a b p q h k =
    b_range (le! (⊖ (lit A)) (at a ⊟ at b) (omega (arith, of_le p, of_le (range_b k).1)))
    (le! (at a ⊟ at b) (lit A) (omega (arith, of_le q, of_le (range_b h).1)))
