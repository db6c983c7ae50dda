-- The sum over a row of cells, of which each changes by what its two faces carry: it changes by what the two ends carry.
-- No reach is named here.
-- Assumes nothing.
use Rattle.std.specs.Prelude.{◌≡◌, refl, [], ◌∷◌, ℕ, zero, suc, ◌<◌, ℤ, pos, ◌+ℤ◌, ◌-ℤ◌}
use Rattle.std.proofs.Common.{◌∙◌, ap₂, arith}
use Rattle.whole.specs.Ring.{v, k, ◌⊕◌, ◌⊝◌, solve}

unfoldable pub sum : (ℕ → ℤ) → ℕ → ℤ
sum f zero = pos 0
sum f (suc n) = sum f n +ℤ f n

pub sum_same : (f g : ℕ → ℤ) (n : ℕ) → ((i : ℕ) → i < n → f i ≡ g i) → sum f n ≡ sum g n
unfolding sum
sum_same f g zero e = refl
sum_same f g (suc n) e = ap₂ ◌+ℤ◌ (sum_same f g n (λ i l. e i (omega arith))) (e n (omega arith))

-- what leaves a cell enters the next
pub telescope : (h h' G : ℕ → ℤ) → ((i : ℕ) → h' i ≡ h i +ℤ G i -ℤ G (suc i)) → (n : ℕ) → sum h' n ≡ sum h n +ℤ G zero -ℤ G n
unfolding sum
telescope h h' G f zero = solve (G zero ∷ []) (k (pos 0)) (k (pos 0) ⊕ v 0 ⊝ v 0) tt
telescope h h' G f (suc n) =
    ap₂ ◌+ℤ◌ (telescope h h' G f n) (f n)
    ∙ solve (sum h n ∷ h n ∷ G zero ∷ G n ∷ G (suc n) ∷ []) (v 0 ⊕ v 2 ⊝ v 3 ⊕ (v 1 ⊕ v 3 ⊝ v 4)) (v 0 ⊕ v 1 ⊕ v 2 ⊝ v 4) tt
