-- Whether two numbers are the same, and that the machine's test says so: it compares their bits, and equal bits are of equal numbers.
-- Assumes nothing.
use Rattle.std.specs.Prelude.{◌≡◌, Bool, true, ◌&&◌, eqb, ℤ}
use Rattle.std.proofs.Common.{sym, ◌∙◌, ap, eq-eqb, ne_eqb, SFits, to_z, of_z, to_z-of_z}
use Rattle.std.specs.Int.Signed.{le_z}
use Rattle.std.specs.Int.{w64}
use Rattle.whole.specs.Flags.{and_l, and_r, by, clash}
use Rattle.whole.specs.Parts.{le_refl}
use Rattle.whole.specs.Tests.{le_yes, yes_le}
use Rattle.whole.specs.Choice.{antisym}

unfoldable pub eq_z : ℤ → ℤ → Bool
eq_z a b = le_z a b && le_z b a

pub eq_yes : (a b : ℤ) → eq_z a b ≡ true → a ≡ b
unfolding eq_z
eq_yes a b e = antisym a b (le_yes a b (and_l (le_z a b) (le_z b a) e)) (le_yes b a (and_r (le_z a b) (le_z b a) e))

yes_eq : {a b : ℤ} → a ≡ b → eq_z a b ≡ true
unfolding eq_z
yes_eq {a} {b} e = rw (e, yes_le b b (le_refl b))

-- ---- in 64 bits with a sign
pub one_number : {a b : ℤ} → SFits w64 a → SFits w64 b → of_z w64 a ≡ of_z w64 b → a ≡ b
one_number f g e = sym (to_z-of_z f) ∙ ap (to_z w64) e ∙ to_z-of_z g

pub test_is : {a b : ℤ} → SFits w64 a → SFits w64 b → eqb (of_z w64 a) (of_z w64 b) ≡ eq_z a b
test_is {a} {b} f g = by (eq_z a b) (λ e. eq-eqb (of_z w64 a) (of_z w64 b) (ap (of_z w64) (eq_yes a b e)) ∙ sym e)
    (λ e. ne_eqb (of_z w64 a) (of_z w64 b) (λ d. clash (sym e ∙ yes_eq (one_number f g d))) ∙ sym e)
