-- What a call gives, by what its checks find: a number with its place, or where they find none the table that it fills and the two volumes.
-- No reach is named here.
-- Assumes nothing.
use Rattle.std.specs.Prelude.{◌≡◌, false, List, ◌∷◌, eqb, ℤ}
use Rattle.std.proofs.Math.Path.{ap}
use Rattle.std.proofs.Math.Bool.{cond}
use Rattle.std.proofs.Common.{eq-eqb, ne_eqb}
use Rattle.rules.specs.Refusals.{Check, applies, verdict, spot}
use Rattle.rules.specs.Lent.{refused, accepted, outcome}
use Rattle.rules.specs.Found.{Found, found}

module _ (t : List ℤ) (w v : ℤ) where
  pub accepts : (xs : List Check) → verdict xs ≡ 0 → outcome xs t w v ≡ accepted t w v
  unfolding outcome
  accepts xs e = rw (eq-eqb (verdict xs) 0 e)

  pub refuses : (xs : List Check) → (verdict xs ≡ 0 → ⊥) → outcome xs t w v ≡ refused (verdict xs) (spot xs)
  unfolding outcome
  refuses xs f = rw (ne_eqb (verdict xs) 0 f)

  -- lists that find the same give the same
  pub same_outcome : (xs ys : List Check) → found xs ≡ found ys → outcome xs t w v ≡ outcome ys t w v
  unfolding outcome
  same_outcome xs ys e = ap (λ (k : Found). cond (eqb k.no 0) (accepted t w v) (refused k.no k.place)) e

  -- so a first check that does not apply may be left out
  pub without_first : (x : Check) (xs : List Check) → applies x ≡ false → outcome (x ∷ xs) t w v ≡ outcome xs t w v
  unfolding verdict spot
  without_first x xs b = same_outcome (x ∷ xs) xs (rw b)
