-- A number with a sign, what of it is a u64, and the opposite of a number as an i32.
-- Assumes nothing.
use Rattle.std.specs.Prelude.{◌≡◌, true, false, ℕ, suc, ◌+◌, ◌<◌, ◌^◌, T, ℤ, pos, negsuc, ◌-ℤ◌, nat_abs}
use Rattle.std.proofs.Common.{sym, ◌∙◌, true≢false, not-suc-le-zero, arith, ltb-true, to_z-of_z, Fits, SFits, to_z}
use Rattle.std.specs.Int.Signed.{le_z, lt_z, non_neg, mag}
use Rattle.std.specs.Int.{w32, w64}
use Rattle.whole.specs.Choice.{size_z}
use Rattle.whole.specs.Flags.{by}
use Rattle.whole.specs.Parts.{Within, add_parts, b_lit, b_sub, eq_of, fit32, le_of, of_le, lt_of, of_lt}
use Rattle.whole.specs.Tests.{le_yes, le_no, yes_lt, no_lt}

-- -1 - x of an x below nought
flip : (a : ℕ) → negsuc 0 -ℤ negsuc a ≡ pos a
flip a = eq_of (negsuc 0 -ℤ negsuc a) (pos a) (omega (arith, add_parts (negsuc 0) (pos (suc a))))

-- its size is one more
pub below_size : (m z : ℤ) → lt_z z (pos 0) ≡ true → le_z m (negsuc 0 -ℤ z) ≡ lt_z m (size_z z)
unfolding size_z
below_size m (pos a) h = absurd (not-suc-le-zero (ltb-true a 0 h))
below_size m (negsuc a) h = rw (flip a) (by (le_z m (pos a))
    (λ e. e ∙ sym (yes_lt m (pos (suc a)) (lt_of m (pos (suc a)) (omega (arith, of_le (le_yes m (pos a) e))))))
    (λ e. e ∙ sym (no_lt m (pos (suc a)) (le_of (pos (suc a)) m (omega (arith, of_lt (le_no m (pos a) e)))))))

pub flip_fits : (z : ℤ) → lt_z z (pos 0) ≡ true → mag z < 2 ^ 63 → SFits w64 (negsuc 0 -ℤ z)
flip_fits (pos a) h m = absurd (not-suc-le-zero (ltb-true a 0 h))
flip_fits (negsuc a) h m = rw (flip a) (record { sfits = omega arith })

pub flip_size : (z : ℤ) → lt_z z (pos 0) ≡ true → mag z < 2 ^ 63 → T (non_neg (negsuc 0 -ℤ z)) × Fits w64 (nat_abs (negsuc 0 -ℤ z))
flip_size (pos a) h m = absurd (not-suc-le-zero (ltb-true a 0 h))
flip_size (negsuc a) h m = rw (flip a) (tt, record { fits = omega arith })

pub flip_is : (z : ℤ) → lt_z z (pos 0) ≡ true → nat_abs (negsuc 0 -ℤ z) + 1 ≡ nat_abs z
flip_is (pos a) h = absurd (not-suc-le-zero (ltb-true a 0 h))
flip_is (negsuc a) h = rw (flip a) (omega arith)

pub above_size : (z : ℤ) → lt_z z (pos 0) ≡ false → mag z < 2 ^ 63 → T (non_neg z) × Fits w64 (nat_abs z)
above_size (pos a) h m = (tt, record { fits = omega arith })
above_size (negsuc a) h m = absurd (true≢false h)

-- the opposite of a number below 2^31, as an i32
minus_fits : (n : ℕ) → n < 2 ^ 31 → SFits w32 (pos 0 -ℤ pos n)
minus_fits n h = let w : Within 2147483647 (pos n) = record { abs = omega arith } in fit32 (b_sub (b_lit (pos 0)) w) tt

pub turned_fits : (n : ℕ) → n < 2 ^ 31 → SFits w32 (pos 0 -ℤ to_z w32 n)
turned_fits n h = rw (to_z-of_z {w = w32} {z = pos n} (record { sfits = h })) (minus_fits n h)
