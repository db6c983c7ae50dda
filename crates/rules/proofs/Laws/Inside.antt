-- A number that is not outside its list.
-- Assumes nothing.
use Rattle.std.specs.Prelude.{◌≡◌, false, ℤ, ◌≤ℤ◌}
use Rattle.std.specs.Int.Signed.{lt_z}
use Rattle.whole.specs.Flags.{or_l, or_r}
use Rattle.whole.specs.Tests.{lt_no, no_lt}
use Rattle.rules.specs.Refusals.{outside}

pub above_least : (a b x : ℤ) → outside a b x ≡ false → a ≤ℤ x
above_least a b x e = lt_no x a (or_l (lt_z x a) (lt_z b x) e)

pub below_most : (a b x : ℤ) → outside a b x ≡ false → x ≤ℤ b
below_most a b x e = lt_no b x (or_r (lt_z x a) (lt_z b x) e)

pub not_outside : (a b x : ℤ) → a ≤ℤ x → x ≤ℤ b → outside a b x ≡ false
not_outside a b x h k = rw (no_lt x a h, no_lt b x k)
