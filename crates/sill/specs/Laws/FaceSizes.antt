-- What crosses a face at an end and between two cells, and its sizes where all sides are within the limits.
-- Assumes nothing.
use Rattle.std.specs.Prelude.{◌≡◌, refl, List, eqb, get_or, ℤ, neg_ℤ}
use Rattle.std.proofs.Common.{sym, subst, eq-eqb, ne_eqb}
use Prim.Native.Nat.{ℕ, zero, suc, ◌-◌, ◌≤◌}
use native.Mathlib.Omega.{arith}
use Rattle.std.proofs.Math.Decide.{ℕ_discrete}
use Rattle.whole.specs.Flags.{cond_ind}
use Rattle.whole.specs.Parts.{Within, b_mul, b_neg}
use Rattle.whole.specs.Quotient.{b_quot}
use Rattle.tables.specs.Rows.{Written}
use Rattle.rules.specs.Limits.{longest_step}
use Rattle.rules.specs.Face.{Side, Flux, face}
use Rattle.rules.specs.Lawful.{mirror}
use Rattle.rules.specs.Shown.{cross_right, cross_at, volume}
use Rattle.rules.specs.Ends.{outer}
use Rattle.rules.specs.Laws.Sizes.{Sound, Sized}
use Rattle.rules.proofs.Laws.Sizes.{face_sized}
use Rattle.reach.specs.Ranges.{UpTo}
use Rattle.sill.specs.declared.rows.Call.{Call}
use Rattle.sill.specs.declared.rows.Row as cells
use Rattle.sill.specs.declared.rows.FaceRow as faces
use Rattle.sill.specs.Told.{kind_of}
use Rattle.sill.specs.Rows.{left_of, right_of, no_row, no_face, face_row, cross_in, face_row_at}
use Rattle.sill.specs.Ranges.{Numbers, Rows, FaceRow, FaceRows}

-- a side seen from the other bank is within the limits as it is, and so is the outer side of an end
pub turned_sound : {x : Side} → Sound x → Sound (mirror x)
turned_sound s = record { least = s.least; most = s.most; speed = b_neg s.speed }

pub outer_sound : (kind : ℕ) {x : Side} → Sound x → Sound (outer kind x)
unfolding outer
outer_sound kind {x} s = record {
  least = s.least;
  most = s.most;
  speed = cond_ind (eqb kind 0) (neg_ℤ x.u) x.u (Within 131072) (λ e. b_neg s.speed) (λ e. s.speed);
}

-- the row that is kept of a face
row_sized : (dx dt : ℤ) (f : Flux) → UpTo longest_step dt → Sized f → FaceRow (face_row dx dt f)
unfolding volume
row_sized dx dt f t s = record { vol = b_quot dx (b_mul s.F t); K_least = s.K≥0; K = s.K; A = s.A }

module _ (call : Call) (b : List cells.Row) where
  abbrev n : ℕ
  n = call.n

  abbrev left : ℕ → Side
  left i = left_of (get_or b i no_row)

  abbrev right : ℕ → Side
  right i = right_of (get_or b i no_row)

  pub at_left : (i : ℕ) → i ≡ 0 → cross_in call b i ≡ face (outer (kind_of call.left) (left 0)) (left 0)
  unfolding cross_at
  at_left i e = rw e

  pub at_right : (i : ℕ) → (i ≡ 0 → ⊥) → i ≡ n → cross_in call b i ≡ face (right (i - 1)) (outer (kind_of call.right) (right (i - 1)))
  unfolding cross_at cross_right
  at_right zero f e = absurd (f refl)
  at_right (suc i) f e = let l : suc i - 1 ≡ i = omega arith in rw (eq-eqb (suc i) n e, l)

  pub at_inner : (i : ℕ) → (i ≡ 0 → ⊥) → (i ≡ n → ⊥) → cross_in call b i ≡ face (right (i - 1)) (left i)
  unfolding cross_at cross_right
  at_inner zero f e = absurd (f refl)
  at_inner (suc i) f e = let l : suc i - 1 ≡ i = omega arith in rw (ne_eqb (suc i) n e, l)

  -- what crosses a face is as large as the limits of its sides allow
  module _ (num : Numbers call) (s : Rows b n) where
    pub cross_sized : (i : ℕ) → i ≤ n → Sized (cross_in call b i)
    cross_sized i h = go (ℕ_discrete i 0) (ℕ_discrete i n)
      where
        go : Dec (i ≡ 0) → Dec (i ≡ n) → Sized (cross_in call b i)
        go (yes e) q = let x = (s 0 num.some).left in
            subst Sized (sym (at_left i e)) (face_sized _ _ (outer_sound (kind_of call.left) x) x)
        go (no f) (yes e) = let x = (s (i - 1) (omega (arith, f))).right in
            subst Sized (sym (at_right i f e)) (face_sized _ _ x (outer_sound (kind_of call.right) x))
        go (no f) (no e) =
            subst Sized (sym (at_inner i f e)) (face_sized _ _ (s (i - 1) (omega (arith, f))).right (s i (omega (arith, e))).left)

    -- and the rows that are kept of all faces have the sizes that an update asks
    pub face_rows : (f : List faces.FaceRow) → Written no_face f (suc n) (face_row_at call b) → FaceRows f n
    face_rows f w i h =
        subst FaceRow (sym (w i h)) (row_sized call.dx call.dt (cross_in call b i) num.dt_in (cross_sized i (omega arith)))

-- a face at each of the places
pub ruleset at_each = (at_left, at_right, at_inner)
