-- Division toward zero.
-- Assumes nothing.
use Rattle.std.specs.Prelude.{◌≡◌, refl, true, false, ◌≢◌, ◌⊎◌, ℕ, zero, suc, ◌+◌, ◌*◌, ◌/◌, ◌≤◌, ℤ, pos, negsuc, neg_ℤ, nat_abs, ◌+ℤ◌, ◌-ℤ◌, ◌*ℤ◌, ◌≤ℤ◌, ◌<ℤ◌}
use Rattle.std.proofs.Common.{sym, ◌∙◌, ap, inl, inr, ⊎_elim, arith}
use Rattle.std.proofs.Math.Nat as NatL
use Rattle.std.proofs.Math.IntN.{neg_ℤ-neg_ℤ}
use Rattle.std.specs.Int.Signed.{quot_z, le_z}
use Rattle.whole.specs.Flags.{by}
use Rattle.whole.specs.Parts.{lt_le, le_refl, up, dn, abs_parts, one_part, Within, up_neg, dn_neg, abs_neg, le_of, of_le, of_lt}
use Rattle.whole.specs.Difference.{at, lit, ◌⊞◌, ◌⊟◌, ⊖, ◌⊠◌, le!, le?}
use Rattle.whole.specs.Tests.{le_yes, le_no}

pub abs_quot : (a b : ℤ) → nat_abs (quot_z a b) ≡ nat_abs a / nat_abs b
abs_quot (pos a) (pos b) = refl
abs_quot (pos a) (negsuc b) = abs_neg (pos (a / suc b))
abs_quot (negsuc a) (pos b) = abs_neg (pos (suc a / b))
abs_quot (negsuc a) (negsuc b) = refl

pub quot_neg : (a b : ℤ) → quot_z (neg_ℤ a) b ≡ neg_ℤ (quot_z a b)
quot_neg (pos zero) (pos b) = rw NatL.zero-div
quot_neg (pos zero) (negsuc b) = rw NatL.zero-div
quot_neg (pos (suc n)) (pos b) = refl
quot_neg (pos (suc n)) (negsuc b) = sym (neg_ℤ-neg_ℤ (pos (suc n / suc b)))
quot_neg (negsuc n) (pos b) = sym (neg_ℤ-neg_ℤ (pos (suc n / b)))
quot_neg (negsuc n) (negsuc b) = refl

pub quot_odd : {a : ℤ} (b d : ℤ) → a ≡ neg_ℤ b → quot_z a d ≡ neg_ℤ (quot_z b d)
quot_odd b d e = ap (λ (z : ℤ). quot_z z d) e ∙ quot_neg b d

pub abs_quot_le : (a b : ℤ) → nat_abs (quot_z a b) * nat_abs b ≤ nat_abs a
abs_quot_le a b = rw abs_quot (NatL.div-mul-le_self (nat_abs a) (nat_abs b))

-- |a / b| ≤ |a|
pub b_quot : {a : ℤ} {A : ℕ} (b : ℤ) → Within A a → Within A (quot_z a b)
b_quot {a} b h = record { abs = rw abs_quot (NatL.le_trans (NatL.div-le_self (nat_abs a) (nat_abs b)) h.abs) }

pub div_mono : (a b d : ℕ) → a ≤ b → a / d ≤ b / d
div_mono a b zero h = rw (NatL.div-zero a, NatL.div-zero b) (NatL.le_refl 0)
div_mono a b (suc d) h = (NatL.le-div_iff_mul-le (NatL.zero-lt-suc d)).1 (NatL.le_trans (NatL.div-mul-le_self a (suc d)) h)

-- |a / b| ≤ A / |b|
pub b_quot_by : {a : ℤ} {A : ℕ} (b : ℤ) → Within A a → Within (A / nat_abs b) (quot_z a b)
b_quot_by {a} {A} b h = record { abs = rw abs_quot (div_mono (nat_abs a) A (nat_abs b) h.abs) }

-- over a divisor that is at least d
pub b_quot_ge : {a b : ℤ} {A : ℕ} (d : ℕ) → Within A a → pos (suc d) ≤ℤ b → Within (A / suc d) (quot_z a b)
b_quot_ge {a} {b} {A} d h m = record {
  abs = rw abs_quot ((NatL.le-div_iff_mul-le (NatL.zero-lt-suc d)).1 (NatL.le_trans (NatL.mul-le-mul_left (nat_abs a / nat_abs b) low)
      (NatL.le_trans (NatL.div-mul-le_self (nat_abs a) (nat_abs b)) h.abs)));
}
  where
    low : suc d ≤ nat_abs b
    low = omega (arith, of_le m, abs_parts b)

-- the parts, over a divisor that is not negative
pub up_quot : (a : ℤ) (d : ℕ) → up (quot_z a (pos d)) ≡ up a / d
up_quot (pos a) d = refl
up_quot (negsuc a) d = up_neg (pos (suc a / d)) ∙ sym (NatL.zero-div d)

pub dn_quot : (a : ℤ) (d : ℕ) → dn (quot_z a (pos d)) ≡ dn a / d
dn_quot (pos a) d = sym (NatL.zero-div d)
dn_quot (negsuc a) d = dn_neg (pos (suc a / d))

-- a bound on the dividend is one on the quotient times the divisor
up_part : (N : ℤ) (d : ℕ) → up (quot_z N (pos d)) * d ≤ up N
up_part N d = rw up_quot (NatL.div-mul-le_self (up N) d)

dn_part : (N : ℤ) (d : ℕ) → dn (quot_z N (pos d)) * d ≤ dn N
dn_part N d = rw dn_quot (NatL.div-mul-le_self (dn N) d)

pub quot_le : (N D B : ℤ) → pos 0 <ℤ D → pos 0 ≤ℤ B → N ≤ℤ B → (quot_z N D *ℤ D) ≤ℤ B
quot_le N (pos d) B h k m = le! (at (quot_z N (pos d)) ⊠ lit d) (at B)
    (⊎_elim (λ e. omega (arith, of_le k, of_le m, up_part N d)) (λ e. omega (arith, of_le k, of_le m, up_part N d)) (one_part N))
quot_le N (negsuc d) B h k m = absurd h.lt

pub quot_ge : (N D B : ℤ) → pos 0 <ℤ D → pos 0 ≤ℤ B → neg_ℤ B ≤ℤ N → neg_ℤ B ≤ℤ (quot_z N D *ℤ D)
quot_ge N (pos d) B h k m = le! (⊖ (at B)) (at (quot_z N (pos d)) ⊠ lit d)
    (⊎_elim (λ e. omega (arith, of_le k, le? (⊖ (at B)) (at N) m, dn_part N d))
    (λ e. omega (arith, of_le k, le? (⊖ (at B)) (at N) m, dn_part N d)) (one_part N))
quot_ge N (negsuc d) B h k m = absurd h.lt

pub quot_cancel : (k b : ℤ) → b ≢ pos 0 → quot_z (k *ℤ b) b ≡ k
quot_cancel k (pos zero) h = absurd (h refl)
quot_cancel (pos k) (pos (suc b)) h = ap pos (NatL.mul-div_cancel k (NatL.zero-lt-suc b))
quot_cancel (negsuc k) (pos (suc b)) h =
    quot_neg (pos (suc k * suc b)) (pos (suc b)) ∙ ap (λ (n : ℕ). neg_ℤ (pos n)) (NatL.mul-div_cancel (suc k) (NatL.zero-lt-suc b))
quot_cancel (pos k) (negsuc b) h =
    quot_neg (pos (k * suc b)) (negsuc b) ∙ neg_ℤ-neg_ℤ (pos (k * suc b / suc b)) ∙ ap pos (NatL.mul-div_cancel k (NatL.zero-lt-suc b))
quot_cancel (negsuc k) (negsuc b) h = ap (λ (n : ℕ). neg_ℤ (pos n)) (NatL.mul-div_cancel (suc k) (NatL.zero-lt-suc b))

-- cancel a positive factor
pub mul_cancel_le : (a b c : ℤ) → pos 0 <ℤ c → (a *ℤ c) ≤ℤ (b *ℤ c) → a ≤ℤ b
mul_cancel_le a b (pos c) h k =
    le_of a b (NatL.le_of_mul-le-mul_right {k = c} (omega (arith, le? (at a ⊠ lit c) (at b ⊠ lit c) k)) (omega (arith, of_lt h)))
mul_cancel_le a b (negsuc c) h k = absurd h.lt

-- ---- quotients of nought
pub quot_nil : (d : ℤ) → quot_z (pos 0) d ≡ pos 0
quot_nil (pos d) = rw NatL.zero-div
quot_nil (negsuc d) = rw NatL.zero-div

-- a quotient of what is nought
pub quot_none : (a d : ℤ) → a ≡ pos 0 → quot_z a d ≡ pos 0
quot_none a d e = rw e (quot_nil d)

-- twice a dividend at most h divisors: twice the quotient at most h
pub half_le : (N D h : ℤ) → pos 0 <ℤ D → pos 0 ≤ℤ h → (pos 2 *ℤ N) ≤ℤ (h *ℤ D) → (pos 2 *ℤ quot_z N D) ≤ℤ h
half_le N D h D>0 h≥0 m = by (le_z (pos 0) N) up' down
  where
    up' : le_z (pos 0) N ≡ true → (pos 2 *ℤ quot_z N D) ≤ℤ h
    up' e =
        let q = quot_z N D in
        let n≥0 : pos 0 ≤ℤ N = le_yes (pos 0) N e in
        let b : (q *ℤ D) ≤ℤ N = quot_le N D N D>0 n≥0 (le_refl N) in
        mul_cancel_le (pos 2 *ℤ q) h D D>0
        (le! (lit 2 ⊠ at q ⊠ at D) (at h ⊠ at D) (omega (arith, le? (at q ⊠ at D) (at N) b, le? (lit 2 ⊠ at N) (at h ⊠ at D) m)))

    down : le_z (pos 0) N ≡ false → (pos 2 *ℤ quot_z N D) ≤ℤ h
    down e =
        let q = quot_z N D in
        let n<0 : N <ℤ pos 0 = le_no (pos 0) N e in
        let b : (q *ℤ D) ≤ℤ (pos 0) = quot_le N D (pos 0) D>0 (le_refl (pos 0)) (lt_le n<0) in
        let c : q ≤ℤ pos 0 =
        mul_cancel_le q (pos 0) D D>0 (le! (at q ⊠ at D) (lit 0 ⊠ at D) (omega (arith, le? (at q ⊠ at D) (lit 0) b))) in
        le! (lit 2 ⊠ at q) (at h) (omega (arith, of_le c, of_le h≥0))

-- halves, truncated: what is lost of two sums can not take a whole number below nought
pub halves : (h a b : ℤ) → pos 0 ≤ℤ h → pos 0 ≤ℤ (h +ℤ h +ℤ a -ℤ b) → pos 0 ≤ℤ (h +ℤ quot_z a (pos 2) -ℤ quot_z b (pos 2))
halves h a b h≥0 s = le! (lit 0) (at h ⊞ at (quot_z a (pos 2)) ⊟ at (quot_z b (pos 2)))
    (lost (up h) (dn h) (up a) (dn a) (up b) (dn b) _ _ _ _ (up_quot a 2) (dn_quot a 2) (up_quot b 2) (dn_quot b 2) (of_le h≥0)
    (le? (lit 0) (at h ⊞ at h ⊞ at a ⊟ at b) s) (one_part a) (one_part b))
  where
    lost : (hu hd au ad bu bd x y z w : ℕ) → x ≡ au / 2 → y ≡ ad / 2 → z ≡ bu / 2 → w ≡ bd / 2 → 0 + hd ≤ hu + 0
        → 0 + (hd + hd + ad + bu) ≤ hu + hu + au + bd + 0 → (au ≡ 0) ⊎ (ad ≡ 0) → (bu ≡ 0) ⊎ (bd ≡ 0) → 0 + (hd + y + z) ≤ hu + x + w + 0
    lost hu hd au ad bu bd x y z w e f g i h≥0 s (inl p) (inl q) = omega arith
    lost hu hd au ad bu bd x y z w e f g i h≥0 s (inl p) (inr q) = omega arith
    lost hu hd au ad bu bd x y z w e f g i h≥0 s (inr p) (inl q) = omega arith
    lost hu hd au ad bu bd x y z w e f g i h≥0 s (inr p) (inr q) = omega arith

-- ---- of numbers that are not below nought
pub quot_nonneg : (a d : ℤ) → pos 0 ≤ℤ a → pos 0 ≤ℤ d → pos 0 ≤ℤ quot_z a d
quot_nonneg (pos a) (pos d) h k = le_of (pos 0) (pos (a / d)) (omega arith)
quot_nonneg (pos a) (negsuc d) h k = absurd k.le
quot_nonneg (negsuc a) d h k = absurd h.le

-- a share, a over b of at most 1, of m
pub share_le : (m a b : ℕ) → a ≤ b → m * a / b ≤ m
share_le m a zero h = rw (NatL.div-zero (m * a)) (omega arith)
share_le m a (suc b) h = NatL.le_trans (div_mono (m * a) (m * suc b) (suc b) (NatL.mul-le-mul_left m h))
    (NatL.le_of_eq (NatL.mul-div_cancel m (NatL.zero-lt-suc b)))
