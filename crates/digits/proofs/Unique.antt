-- The statement of the digits leaves one answer. Assumes nothing.
use mathlib.Core.Path.{◌≡◌, refl, ap, ◌∙◌}
use Prim.Native.Nat.{ℕ, ◌+◌, ◌*◌}
use native.Mathlib.Omega.{arith}
use Rattle.whole.specs.Largest.{one_largest}
use Rattle.std.specs.Prelude.{Option, Some}
use Rattle.digits.specs.declared.Root.{Root}
use Rattle.digits.specs.Root.{RootOf, DigitsSay, within, beyond}

-- one root, and so one rest
one_root : {z : ℕ} {r r' : Root} → RootOf z r.whole r.rest → RootOf z r'.whole r'.rest → r ≡ r'
one_root {z} {r} {r'} a b =
    ap (λ (w : ℕ). record { whole = w; rest = r.rest }) whole ∙ ap (λ (t : ℕ). record { whole = r'.whole; rest = t }) rest
  where
    whole : r.whole ≡ r'.whole
    whole = one_largest r.whole r'.whole a.largest b.largest

    rest : r.rest ≡ r'.rest
    rest = let p = a.left in let q : r.whole * r.whole + r'.rest ≡ z = ap (λ (x : ℕ). x * x + r'.rest) whole ∙ b.left in omega arith

pub digits_unique : {number noughts : ℕ} {a b : Option Root} → DigitsSay number noughts a → DigitsSay number noughts b → a ≡ b
digits_unique (within f o) (within f' o') = ap Some (one_root o o')
digits_unique (within f o) (beyond n) = absurd (n f)
digits_unique (beyond n) (within f o) = absurd (n f)
digits_unique (beyond n) (beyond n') = refl
