-- The rules of the limiter by whether a cell is the first or the last.
-- Assumes nothing.
use Rattle.std.specs.Prelude.{◌≡◌, true, false, ◌||◌, List, ℕ, zero, suc, ◌+◌, ◌-◌, ◌≤◌, ◌<◌, eqb, length, ℤ, ◌-ℤ◌}
use Rattle.std.proofs.Math.Path.{refl, ap}
use Rattle.std.proofs.Common.{sym, ◌∙◌, subst, add-one, arith, eq-eqb, ne_eqb}
use Rattle.tables.specs.Cells.{seen}
use Rattle.rules.specs.Reach.{Reach, Call, State}
use Rattle.rules.specs.Finishing.{parted, marked, shallow_at, shallow_left, minmod, with_left}
use Rattle.reach.specs.Ranges.{Wides}
use Rattle.finishing.specs.InTable.{InReach, Neighbours}

-- ---- the last of n cells, as the code asks and as the rules do
module _ (i : ℕ) {n : ℕ} where
  pub is_last : i + 1 ≡ n → eqb (suc i) n ≡ true
  is_last e = eq-eqb (suc i) n (sym (add-one i) ∙ e)

  pub not_last : (i + 1 ≡ n → ⊥) → eqb (suc i) n ≡ false
  not_last f = ne_eqb (suc i) n (λ e. f (add-one i ∙ e))

-- a cell of the reach that stands beside one of it
pub beside : {n i : ℕ} {bed : List ℤ} {u : List (List ℤ)} (j : ℕ) → j < n → InReach n bed u i → InReach n bed u j
beside j l p = record { row = record { below = l; room = p.row.room; wide = p.row.wide }; grounds = p.grounds }

-- any that is not the last shares an inner face with the next
pub neighbours : {n i : ℕ} {u : List (List ℤ)} → n ≤ length u → Wides n (seen u) → suc i < n → Neighbours u i
neighbours {n} {i} room wide h = record { room = omega arith; left = wide i (omega arith); right = wide (suc i) h }

-- ---- the first cell, and one that has a cell before it
at_first : (P : ℕ → Type 0) → P 0 → (i : ℕ) → i ≡ 0 → P i
at_first P p i e = subst P (sym e) p

at_next : (P : ℕ → Type 0) → ((k : ℕ) → P (suc k)) → (i : ℕ) → (i ≡ 0 → ⊥) → P i
at_next P p zero f = absurd (f refl)
at_next P p (suc k) f = p k

back_one : (i : ℕ) → i ≡ suc i - 1
back_one i = omega arith

module _ (m : ℕ → ℤ) (i : ℕ) (x : ℤ) where
  abbrev against : ℕ → ℤ
  against j = minmod x (m (suc j) -ℤ m j)

  pub left_first : i ≡ 0 → with_left m i x ≡ x
  unfolding with_left
  left_first e = at_first (λ j. with_left m j x ≡ x) refl i e

  pub left_next : (i ≡ 0 → ⊥) → with_left m i x ≡ against (i - 1)
  unfolding with_left
  left_next f = at_next (λ j. with_left m j x ≡ against (j - 1)) (λ k. ap against (back_one k)) i f

module _ (r : Reach) (c : Call) (s : State) (i : ℕ) where
  pub marked_first : i ≡ 0 → marked r c s i ≡ parted r c s i
  unfolding marked
  marked_first e = at_first (λ j. marked r c s j ≡ parted r c s j) refl i e

  pub marked_next : (i ≡ 0 → ⊥) → marked r c s i ≡ (parted r c s (i - 1) || parted r c s i)
  unfolding marked
  marked_next f = at_next (λ j. marked r c s j ≡ (parted r c s (j - 1) || parted r c s j))
      (λ k. ap (λ (j : ℕ). parted r c s j || parted r c s (suc k)) (back_one k)) i f

module _ (d : ℤ) (r : Reach) (s : State) (i : ℕ) where
  pub shallow_first : i ≡ 0 → shallow_left d r s i ≡ false
  unfolding shallow_left
  shallow_first e = at_first (λ j. shallow_left d r s j ≡ false) refl i e

  pub shallow_next : (i ≡ 0 → ⊥) → shallow_left d r s i ≡ shallow_at d r s (i - 1)
  unfolding shallow_left
  shallow_next f = at_next (λ j. shallow_left d r s j ≡ shallow_at d r s (j - 1)) (λ k. ap (shallow_at d r s) (back_one k)) i f
