-- What crosses a face at an end and between two cells, and its sizes where all sides and inflows are within the limits.
-- Assumes nothing.
use Rattle.std.specs.Prelude.{◌≡◌, refl, List, ℤ}
use Rattle.std.proofs.Common.{sym, subst, eq-eqb, ne_eqb}
use Prim.Native.Nat.{ℕ, zero, suc, ◌-◌, ◌≤◌, ◌<◌}
use native.Mathlib.Omega.{arith}
use Rattle.std.proofs.Math.Decide.{ℕ_discrete}
use Rattle.whole.specs.Flags.{or_l, or_r}
use Rattle.whole.specs.Parts.{b_mul, b_nonneg}
use Rattle.whole.specs.Quotient.{b_quot}
use Rattle.tables.specs.Rows.{Written}
use Rattle.rules.specs.Limits.{longest_step}
use Rattle.rules.specs.Face.{Side, Flux, face}
use Rattle.rules.specs.Shown.{cross_right, cross_at, volume}
use Rattle.rules.specs.Ends.{left_end, right_end}
use Rattle.rules.specs.Laws.Sizes.{Sized}
use Rattle.rules.proofs.Laws.Sizes.{face_sized}
use Rattle.rules.proofs.Laws.EndSizes.{left_end_sized, right_end_sized}
use Rattle.reach.specs.declared.Reach.{Reach}
use Rattle.reach.specs.declared.Call.{Call}
use Rattle.reach.specs.Told.{end_in}
use Rattle.reach.specs.Ranges.{UpTo, Numbers}
use Rattle.stage.specs.declared.rows.FaceRow.{FaceRow}
use Rattle.stage.specs.Rows.{left_in, right_in, Sounds, fast_left, fast_right, fast_ends, SlowEnds, cross_in}
use Rattle.stage.specs.Rows.{no_row, face_row, face_row_at}
use Rattle.stage.specs.Ranges.{Row, FaceRows}

-- the row that is kept of a face
row_sized : (dx dt : ℤ) (f : Flux) → UpTo longest_step dt → Sized f → Row (face_row dx dt f)
unfolding volume
row_sized dx dt f t s = record { F = s.F; K = b_nonneg s.K≥0 s.K; A = s.A; vol = b_quot dx (b_mul s.F t) }

module _ (reach : Reach) (call : Call) (d : List (List ℤ)) where
  abbrev n : ℕ
  n = reach.n

  abbrev left : Side → Flux
  left = left_end face call.dry (end_in call.left)

  abbrev right : Side → Flux
  right = right_end face call.dry (end_in call.right)

  pub at_left : (i : ℕ) → i ≡ 0 → cross_in reach call d i ≡ left (left_in d 0)
  unfolding cross_at
  at_left i e = rw e

  pub at_right : (i : ℕ) → (i ≡ 0 → ⊥) → i ≡ n → cross_in reach call d i ≡ right (right_in d (i - 1))
  unfolding cross_at cross_right
  at_right zero f e = absurd (f refl)
  at_right (suc i) f e = let l : suc i - 1 ≡ i = omega arith in rw (eq-eqb (suc i) n e, l)

  pub at_inner : (i : ℕ) → (i ≡ 0 → ⊥) → (i ≡ n → ⊥) → cross_in reach call d i ≡ face (right_in d (i - 1)) (left_in d i)
  unfolding cross_at cross_right
  at_inner zero f e = absurd (f refl)
  at_inner (suc i) f e = let l : suc i - 1 ≡ i = omega arith in rw (ne_eqb (suc i) n e, l)

  -- what crosses a face is as large as the limits of its sides and of the ends' inflows allow
  module _ (o : 0 < n) (num : Numbers reach call) (s : Sounds d n) (slow : SlowEnds reach call d) where
    left_sized : Sized (left (left_in d 0))
    unfolding fast_ends
    left_sized = left_end_sized call.dry (end_in call.left) (left_in d 0) (s 0 o).0 num.left_q
        (or_l (fast_left reach call d) (fast_right reach call d) slow)

    right_sized : Sized (right (right_in d (n - 1)))
    unfolding fast_ends
    right_sized =
        right_end_sized call.dry (end_in call.right) (right_in d (n - 1)) (s (n - 1) (omega arith)).1 num.right_q
        (or_r (fast_left reach call d) (fast_right reach call d) slow)

    pub cross_sized : (i : ℕ) → i ≤ n → Sized (cross_in reach call d i)
    cross_sized i h = go (ℕ_discrete i 0) (ℕ_discrete i n)
      where
        go : Dec (i ≡ 0) → Dec (i ≡ n) → Sized (cross_in reach call d i)
        go (yes e) q = subst Sized (sym (at_left i e)) left_sized
        go (no f) (yes e) = subst Sized (sym (at_right i f e)) (subst (λ (m : ℕ). Sized (right (right_in d (m - 1)))) (sym e) right_sized)
        go (no f) (no e) =
            subst Sized (sym (at_inner i f e)) (face_sized _ _ (s (i - 1) (omega (arith, f))).1 (s i (omega (arith, e))).0)

    -- and the rows that are kept of all faces have the sizes that an update asks
    pub face_rows : (f : List FaceRow) → Written no_row f (suc n) (face_row_at reach call d) → FaceRows f n
    face_rows f w i h =
        subst Row (sym (w i h)) (row_sized reach.dx call.dt (cross_in reach call d i) num.dt_in (cross_sized i (omega arith)))
