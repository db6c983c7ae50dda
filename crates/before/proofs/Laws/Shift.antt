-- Cell k + 1 of a table of cells is cell k of the table behind its first cell.
-- Assumes nothing.
use Rattle.std.specs.Prelude.{◌≡◌, List, ◌∷◌, ℕ, suc, ◌+◌, ◌*◌, get_or, ℤ, pos}
use Rattle.std.proofs.Common.{arith}
use Rattle.before.specs.E7.{cell_at}

pub shift : (a b c d : ℤ) (s : List ℤ) (k : ℕ) → cell_at (a ∷ b ∷ c ∷ d ∷ s) (suc k) ≡ cell_at s k
shift a b c d s k =
    let m0 : 4 * suc k ≡ suc (suc (suc (suc (4 * k)))) = omega arith in
    let m1 : 4 * suc k + 1 ≡ suc (suc (suc (suc (4 * k + 1)))) = omega arith in
    let m2 : 4 * suc k + 2 ≡ suc (suc (suc (suc (4 * k + 2)))) = omega arith in
    let m3 : 4 * suc k + 3 ≡ suc (suc (suc (suc (4 * k + 3)))) = omega arith in
    let l = a ∷ b ∷ c ∷ d ∷ s in
    λ i. record { e0 = get_or l (m0 i) (pos 0); e1 = get_or l (m1 i) (pos 0); q0 = get_or l (m2 i) (pos 0); q1 = get_or l (m3 i) (pos 0) }
