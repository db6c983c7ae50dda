-- The tests `le_z` and `lt_z` of the code, to and from the order of whole numbers.
-- Assumes nothing.
use Rattle.std.specs.Prelude.{◌≡◌, true, false, not, T, ℤ, pos, negsuc, neg_ℤ, ◌≤ℤ◌, ◌<ℤ◌}
use Rattle.std.proofs.Common.{sym, ◌∙◌, arith, lt→ltb}
use Rattle.std.proofs.Math.Dec.{nleb→lt}
use Rattle.std.specs.Int.Signed.{le_z, lt_z, lt_z_no}
use Rattle.whole.specs.Flags.{holds, held, fails, failed, by}
use Rattle.whole.specs.Parts.{of_le, of_lt}
use Rattle.whole.specs.Difference.{at, ⊖, le!, lt! }

pub le_yes : (a b : ℤ) → le_z a b ≡ true → a ≤ℤ b
le_yes a b e = record { le = held (le_z a b) e }

pub lt_yes : (a b : ℤ) → lt_z a b ≡ true → a <ℤ b
lt_yes a b e = record { lt = held (lt_z a b) e }

pub lt_no : (a b : ℤ) → lt_z a b ≡ false → b ≤ℤ a
lt_no a b e = lt_z_no (failed (lt_z a b) e)

nle : (a b : ℤ) → T (not (le_z a b)) → T (lt_z b a)
nle (pos a) (pos b) t = lt→ltb b a (nleb→lt a b t)
nle (pos a) (negsuc b) t = tt
nle (negsuc a) (pos b) t = t
nle (negsuc a) (negsuc b) t = lt→ltb a b (nleb→lt b a t)

pub le_no : (a b : ℤ) → le_z a b ≡ false → b <ℤ a
le_no a b e = record { lt = nle a b (failed (le_z a b) e) }

pub yes_le : (a b : ℤ) → a ≤ℤ b → le_z a b ≡ true
yes_le a b h = holds (le_z a b) h.le

pub yes_lt : (a b : ℤ) → a <ℤ b → lt_z a b ≡ true
yes_lt a b h = holds (lt_z a b) h.lt

pub no_le : (a b : ℤ) → b <ℤ a → le_z a b ≡ false
no_le a b h = fails (le_z a b) (λ t. let k : a ≤ℤ b = record { le = t } in let z : ⊥ = omega (arith, of_lt h, of_le k) in z)

pub no_lt : (a b : ℤ) → b ≤ℤ a → lt_z a b ≡ false
no_lt a b h = fails (lt_z a b) (λ t. let k : a <ℤ b = record { lt = t } in let z : ⊥ = omega (arith, of_le h, of_lt k) in z)

-- tests of numbers with their signs changed
pub le_neg : (a b : ℤ) → le_z (neg_ℤ a) (neg_ℤ b) ≡ le_z b a
le_neg a b = by (le_z b a)
    (λ e. yes_le (neg_ℤ a) (neg_ℤ b) (le! (⊖ (at a)) (⊖ (at b)) (omega (arith, of_le (le_yes b a e)))) ∙ sym e)
    (λ e. no_le (neg_ℤ a) (neg_ℤ b) (lt! (⊖ (at b)) (⊖ (at a)) (omega (arith, of_lt (le_no b a e)))) ∙ sym e)

pub lt_neg : (a b : ℤ) → lt_z (neg_ℤ a) (neg_ℤ b) ≡ lt_z b a
lt_neg a b = by (lt_z b a)
    (λ e. yes_lt (neg_ℤ a) (neg_ℤ b) (lt! (⊖ (at a)) (⊖ (at b)) (omega (arith, of_lt (lt_yes b a e)))) ∙ sym e)
    (λ e. no_lt (neg_ℤ a) (neg_ℤ b) (le! (⊖ (at b)) (⊖ (at a)) (omega (arith, of_le (lt_no b a e)))) ∙ sym e)
