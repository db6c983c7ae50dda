-- To be believed: `Within`.
-- ℤ by way of the native ℕ: z is `up z - dn z`, and every statement about sums, products and orders of integers becomes one about
-- naturals, which `omega` proves.
-- Assumes nothing.
use Rattle.std.specs.Prelude.{◌≡◌, refl, ◌⊎◌, ℕ, zero, suc, ◌+◌, ◌*◌, ◌-◌, ◌^◌, ◌≤◌, ◌<◌, T, ltb, leb, ℤ, pos, negsuc, neg_ℤ, nat_abs, ◌+ℤ◌, ◌-ℤ◌, ◌*ℤ◌, ◌≤ℤ◌, ◌<ℤ◌}
use Rattle.std.proofs.Common.{sym, ◌∙◌, ap, ap₂, subst, inl, inr, ⊎_elim, arith, ltb→lt, lt→ltb, leb→le, le→leb, nltb→le, SFits}
use Rattle.std.proofs.Math.Nat as NatL
use Rattle.std.proofs.Math.IntN.{sub_ℕ}
use Rattle.std.specs.Int.{w32, w64}
use Rattle.std.specs.Int.Signed.{nat_abs-le, mag, le_z}
use Rattle.whole.specs.Flags.{cond_ind, held, failed}

abbrev pub up : ℤ → ℕ
up (pos n) = n
up (negsuc n) = 0

abbrev pub dn : ℤ → ℕ
dn (pos n) = 0
dn (negsuc n) = suc n

-- ---- the sum
sub_parts : (a b : ℕ) → up (sub_ℕ a b) + b ≡ a + dn (sub_ℕ a b)
sub_parts a b = cond_ind (ltb a b) (negsuc (b - suc a)) (pos (a - b)) (λ z. up z + b ≡ a + dn z)
    (λ e. let h : a < b = ltb→lt a b (held (ltb a b) e) in omega arith)
    (λ e. let h : b ≤ a = nltb→le a b (failed (ltb a b) e) in omega arith)

pub add_parts : (a b : ℤ) → up (a +ℤ b) + (dn a + dn b) ≡ (up a + up b) + dn (a +ℤ b)
add_parts (pos a) (pos b) = omega arith
add_parts (pos a) (negsuc b) = omega (arith, sub_parts a (suc b))
add_parts (negsuc a) (pos b) = omega (arith, sub_parts b (suc a))
add_parts (negsuc a) (negsuc b) = omega arith

pub up_neg : (a : ℤ) → up (neg_ℤ a) ≡ dn a
up_neg (pos zero) = refl
up_neg (pos (suc n)) = refl
up_neg (negsuc n) = refl

pub dn_neg : (a : ℤ) → dn (neg_ℤ a) ≡ up a
dn_neg (pos zero) = refl
dn_neg (pos (suc n)) = refl
dn_neg (negsuc n) = refl

pub up_mul : (a b : ℤ) → up (a *ℤ b) ≡ up a * up b + dn a * dn b
up_mul (pos a) (pos b) = omega arith
up_mul (pos a) (negsuc b) = up_neg (pos (a * suc b)) ∙ omega arith
up_mul (negsuc a) (pos b) = up_neg (pos (suc a * b)) ∙ omega arith
up_mul (negsuc a) (negsuc b) = omega arith

pub dn_mul : (a b : ℤ) → dn (a *ℤ b) ≡ up a * dn b + dn a * up b
dn_mul (pos a) (pos b) = omega arith
dn_mul (pos a) (negsuc b) = dn_neg (pos (a * suc b)) ∙ omega arith
dn_mul (negsuc a) (pos b) = dn_neg (pos (suc a * b)) ∙ omega arith
dn_mul (negsuc a) (negsuc b) = omega arith

-- ---- order and equality
pub le_of : (a b : ℤ) → up a + dn b ≤ up b + dn a → a ≤ℤ b
le_of (pos a) (pos b) h = record { le = le→leb a b (omega arith) }
le_of (pos a) (negsuc b) h = let z : ⊥ = omega arith in absurd z
le_of (negsuc a) (pos b) h = record { le = tt }
le_of (negsuc a) (negsuc b) h = record { le = le→leb b a (omega arith) }

pub of_le : {a b : ℤ} → a ≤ℤ b → up a + dn b ≤ up b + dn a
of_le {a = pos a} {b = pos b} h = omega (arith, leb→le a b h.le)
of_le {a = pos a} {b = negsuc b} h = absurd h.le
of_le {a = negsuc a} {b = pos b} h = omega arith
of_le {a = negsuc a} {b = negsuc b} h = omega (arith, leb→le b a h.le)

pub lt_of : (a b : ℤ) → up a + dn b < up b + dn a → a <ℤ b
lt_of (pos a) (pos b) h = record { lt = lt→ltb a b (omega arith) }
lt_of (pos a) (negsuc b) h = let z : ⊥ = omega arith in absurd z
lt_of (negsuc a) (pos b) h = record { lt = tt }
lt_of (negsuc a) (negsuc b) h = record { lt = lt→ltb b a (omega arith) }

pub of_lt : {a b : ℤ} → a <ℤ b → up a + dn b < up b + dn a
of_lt {a = pos a} {b = pos b} h = omega (arith, ltb→lt a b h.lt)
of_lt {a = pos a} {b = negsuc b} h = absurd h.lt
of_lt {a = negsuc a} {b = pos b} h = omega arith
of_lt {a = negsuc a} {b = negsuc b} h = omega (arith, ltb→lt b a h.lt)

pub eq_of : (a b : ℤ) → up a + dn b ≡ up b + dn a → a ≡ b
eq_of (pos a) (pos b) h = ap pos (omega arith)
eq_of (pos a) (negsuc b) h = let z : ⊥ = omega arith in absurd z
eq_of (negsuc a) (pos b) h = let z : ⊥ = omega arith in absurd z
eq_of (negsuc a) (negsuc b) h = ap negsuc (omega arith)

pub of_eq : {a b : ℤ} → a ≡ b → up a + dn b ≡ up b + dn a
of_eq {a} {b} e = subst (λ (z : ℤ). up a + dn z ≡ up z + dn a) e refl

-- ---- products of inequalities: (y - x) * (w - z) is not negative
pub cross : {x y z w : ℕ} → x ≤ y → z ≤ w → y * z + x * w ≤ y * w + x * z
cross {x} {y} {z} {w} h k =
    let d : ℕ = y - x in
    let e : d + x ≡ y = omega arith in
    subst (λ (t : ℕ). t * z + x * w ≤ t * w + x * z) e (omega (arith, NatL.mul-le-mul_left d k))

-- ---- magnitudes
pub abs_parts : (a : ℤ) → nat_abs a ≡ up a + dn a
abs_parts (pos n) = omega arith
abs_parts (negsuc n) = omega arith

pub abs_neg : (a : ℤ) → nat_abs (neg_ℤ a) ≡ nat_abs a
abs_neg a = omega (arith, abs_parts (neg_ℤ a), abs_parts a, up_neg a, dn_neg a)

pub abs_mul : (a b : ℤ) → nat_abs (a *ℤ b) ≡ nat_abs a * nat_abs b
abs_mul a b = abs_parts (a *ℤ b) ∙ (omega (arith, up_mul a b, dn_mul a b)) ∙ sym (ap₂ ◌*◌ (abs_parts a) (abs_parts b))

-- only one of the parts is not 0
pub one_part : (a : ℤ) → (up a ≡ 0) ⊎ (dn a ≡ 0)
one_part (pos n) = inr refl
one_part (negsuc n) = inl refl

pub abs_add : (a b : ℤ) → nat_abs (a +ℤ b) ≤ nat_abs a + nat_abs b
abs_add a b = ⊎_elim (λ h. omega (arith, abs_parts (a +ℤ b), abs_parts a, abs_parts b, add_parts a b))
    (λ h. omega (arith, abs_parts (a +ℤ b), abs_parts a, abs_parts b, add_parts a b)) (one_part (a +ℤ b))

-- ---- bounds: |z| at most a number, through the operations. A record, so that the number and z are inferred
pub record Within (A : ℕ) (z : ℤ) : Type 0 where
  pub abs : nat_abs z ≤ A

pub b_add : {a b : ℤ} {A B : ℕ} → Within A a → Within B b → Within (A + B) (a +ℤ b)
b_add {a} {b} h k = record { abs = omega (arith, h.abs, k.abs, abs_add a b) }

pub b_neg : {a : ℤ} {A : ℕ} → Within A a → Within A (neg_ℤ a)
b_neg {a} h = record { abs = omega (arith, h.abs, abs_neg a) }

pub b_sub : {a b : ℤ} {A B : ℕ} → Within A a → Within B b → Within (A + B) (a -ℤ b)
b_sub h k = b_add h (b_neg k)

pub b_mul : {a b : ℤ} {A B : ℕ} → Within A a → Within B b → Within (A * B) (a *ℤ b)
b_mul {a} {b} h k = record { abs = NatL.le_trans (NatL.le_of_eq (abs_mul a b)) (NatL.mul-le-mul h.abs k.abs) }

pub b_lit : (z : ℤ) → Within (nat_abs z) z
b_lit z = record { abs = NatL.le_refl (nat_abs z) }

-- a larger bound, at numerals
pub b_up : {z : ℤ} {A : ℕ} (B : ℕ) → Within A z → T (leb A B) → Within B z
b_up {z} {A} B h t = record { abs = NatL.le_trans h.abs (leb→le A B t) }

pub mag_abs : (z : ℤ) → mag z ≤ nat_abs z
mag_abs (pos n) = omega arith
mag_abs (negsuc n) = omega arith

pub fit : {z : ℤ} {A : ℕ} → Within A z → T (ltb A (2 ^ 63)) → SFits w64 z
fit {z} {A} h t = record { sfits = omega (arith, mag_abs z, h.abs, ltb→lt A (2 ^ 63) t) }

pub b_range : {z : ℤ} {A : ℕ} → neg_ℤ (pos A) ≤ℤ z → z ≤ℤ pos A → Within A z
b_range {z} {A} h k = record {
  abs = ⊎_elim (λ e. omega (arith, of_le h, of_le k, abs_parts z, up_neg (pos A), dn_neg (pos A)))
      (λ e. omega (arith, of_le h, of_le k, abs_parts z, up_neg (pos A), dn_neg (pos A))) (one_part z);
}

pub range_b : {z : ℤ} {A : ℕ} → Within A z → (neg_ℤ (pos A) ≤ℤ z) × (z ≤ℤ pos A)
range_b {z} {A} h = (
  le_of (neg_ℤ (pos A)) z (omega (arith, h.abs, abs_parts z, up_neg (pos A), dn_neg (pos A))),
  le_of z (pos A) (omega (arith, h.abs, abs_parts z)),
)

pub le_refl : (a : ℤ) → a ≤ℤ a
le_refl a = le_of a a (omega arith)

pub lt_le : {a b : ℤ} → a <ℤ b → a ≤ℤ b
lt_le {a} {b} h = le_of a b (omega (arith, of_lt h))

pub le_trans : {a b c : ℤ} → a ≤ℤ b → b ≤ℤ c → a ≤ℤ c
le_trans {a} {b} {c} h k = le_of a c (omega (arith, of_le h, of_le k))

pub le_lt_trans : {a b c : ℤ} → a ≤ℤ b → b <ℤ c → a <ℤ c
le_lt_trans {a} {b} {c} h k = lt_of a c (omega (arith, of_le h, of_lt k))

pub lt_le_trans : {a b c : ℤ} → a <ℤ b → b ≤ℤ c → a <ℤ c
lt_le_trans {a} {b} {c} h k = lt_of a c (omega (arith, of_lt h, of_le k))

-- of two literals: `le_lit tt`
pub le_lit : (a b : ℤ) → T (le_z a b) → a ≤ℤ b
le_lit a b t = record { le = t }

pub dn_zero : {z : ℤ} → pos 0 ≤ℤ z → dn z ≡ 0
dn_zero {z = pos n} h = refl
dn_zero {z = negsuc n} h = absurd h.le

pub up_zero : {z : ℤ} → z ≤ℤ pos 0 → up z ≡ 0
up_zero {z = pos n} h = omega (arith, of_le h)
up_zero {z = negsuc n} h = refl

pub b_nonneg : {z : ℤ} {A : ℕ} → pos 0 ≤ℤ z → z ≤ℤ pos A → Within A z
b_nonneg {z} {A} h k = record { abs = omega (arith, of_le h, of_le k, abs_parts z, dn_zero h) }

pub fit32 : {z : ℤ} {A : ℕ} → Within A z → T (ltb A (2 ^ 31)) → SFits w32 z
fit32 {z} {A} h t = record { sfits = omega (arith, mag_abs z, h.abs, ltb→lt A (2 ^ 31) t) }

pub nat_nonneg : (n : ℕ) → pos 0 ≤ℤ pos n
nat_nonneg n = le_of (pos 0) (pos n) (omega arith)

-- any i64
pub whole : {z : ℤ} → SFits w64 z → Within 9223372036854775808 z
whole {z} f = record { abs = nat_abs-le z f.sfits }

pub lt_suc : {n : ℕ} {z : ℤ} → pos n <ℤ z → pos (suc n) ≤ℤ z
lt_suc {n} {z} h = le_of (pos (suc n)) z (omega (arith, of_lt h))
