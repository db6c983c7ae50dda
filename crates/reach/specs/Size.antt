-- To be believed: `largest64` and `held_size`.
-- The size of a number in 64 bits with a sign.
-- Assumes nothing.
use Rattle.std.specs.Prelude.{◌≡◌, ℕ, T, leb, ℤ, pos, nat_abs}
use Rattle.std.proofs.Common.{◌∙◌, ap, arith, leb→le}
use Rattle.whole.specs.Parts.{Within, le_of}
use Rattle.whole.specs.Choice.{min_z, size_z}
use Rattle.whole.specs.Tests.{yes_le}
use Rattle.whole.specs.Machine.{Got}

-- the largest number there
abbrev pub largest64 : ℤ
largest64 = pos 9223372036854775807

-- of the least number, -2^63, it is held to that
unfoldable pub held_size : ℤ → ℤ
held_size x = min_z (size_z x) largest64

-- of any other it is the size
pub size_is : {A : ℕ} {x : ℤ} → Within A x → T (leb A (nat_abs largest64)) → held_size x ≡ size_z x
unfolding held_size min_z size_z
size_is {A} {x} w t = rw (yes_le (size_z x) largest64 (le_of (size_z x) largest64 (omega (arith, w.abs, leb→le A (nat_abs largest64) t))))

-- what `size` answers of a number that the machine has
pub sized : {A : ℕ} {t x z : ℤ} → Got A t x → z ≡ held_size t → T (leb A (nat_abs largest64)) → z ≡ size_z x
sized g e t = e ∙ ap held_size g.same ∙ size_is g.bound t
