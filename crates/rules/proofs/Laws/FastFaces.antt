-- The lowest face that is too fast: by the inflow at the left end, else by the sides of the lowest cell that has a fast one, else by the
-- inflow at the right end.
-- Assumes nothing.
use Rattle.std.specs.Prelude.{◌≡◌, Bool, ◌||◌}
use Rattle.std.proofs.Common.{◌∙◌, ap}
use Rattle.std.proofs.Math.Path.{subst}
use Rattle.std.proofs.Math.Bool.{true, false}
use Prim.Native.Nat.{ℕ, zero, suc, ◌-◌, ◌<◌}
use native.Mathlib.Omega.{arith}
use Rattle.std.proofs.Math.Decide.{ℕ_discrete}
use borrow.Author.Tests.{eq-eqb, ne_eqb}
use Rattle.whole.specs.Flags.{or_true}
use Rattle.tables.specs.Some.{some, IsLowest}
use Rattle.tables.proofs.Some.{none_some}
use Rattle.rules.specs.Reach.{Reach, Call, State}
use Rattle.rules.specs.Stage.{at_left, at_right}
use Rattle.rules.specs.Refusals.{fast_side, fast_inflow, fast_face}

module _ (r : Reach) (c : Call) (s : State) where
  -- the sides of cell i
  abbrev pub left_fast : ℕ → Bool
  left_fast i = fast_side (at_left r c s i)

  abbrev pub right_fast : ℕ → Bool
  right_fast i = fast_side (at_right r c s i)

  -- the inflows
  abbrev pub inflow_left : Bool
  inflow_left = fast_inflow c.dry c.left (at_left r c s 0)

  abbrev pub inflow_right : Bool
  inflow_right = fast_inflow c.dry c.right (at_right r c s (r.n - 1))

  -- the last face, behind the last cell
  pub last_face : 0 < r.n → fast_face r c s r.n ≡ (right_fast (r.n - 1) || inflow_right)
  unfolding fast_face
  last_face o = let last = r.n - 1 in let e : suc last ≡ r.n = omega arith in
      subst (λ (j : ℕ). fast_face r c s j ≡ (right_fast last || inflow_right)) e (rw (eq-eqb (suc last) r.n e))

  -- no cell below i has a fast side
  abbrev pub SlowBelow : ℕ → Type 0
  SlowBelow i = (k : ℕ) → k < i → (left_fast k ≡ false) × (right_fast k ≡ false)

  abbrev Lowest : ℕ → Type 0
  Lowest i = IsLowest (fast_face r c s) (suc r.n) i

  pub left_inflow : inflow_left ≡ true → Lowest 0
  unfolding fast_face
  left_inflow e = record { below = omega arith; has = rw e; under = λ j l. let z : ⊥ = omega arith in absurd z }

  -- a slow inflow at the left end
  module _ (e : inflow_left ≡ false) where
    -- a face right of slow cells, with a slow left side behind it
    slow_face : (i : ℕ) → i < r.n → SlowBelow i → left_fast i ≡ false → fast_face r c s i ≡ false
    unfolding fast_face
    slow_face zero l w f = rw (e, f)
    slow_face (suc i) l w f = rw ((w i (omega arith)).1, ne_eqb (suc i) r.n (λ d. omega arith), f)

    slow_faces : (i : ℕ) → i < suc r.n → SlowBelow i → (j : ℕ) → j < i → fast_face r c s j ≡ false
    slow_faces i l w j m = slow_face j (omega arith) (λ k h. w k (omega arith)) (w j m).0

    module _ (i : ℕ) (l : i < r.n) (w : SlowBelow i) where
      pub left_side : left_fast i ≡ true → Lowest i
      unfolding fast_face
      left_side f = record { below = omega arith; has = here i l f; under = slow_faces i (omega arith) w }
        where
          here : (k : ℕ) → k < r.n → left_fast k ≡ true → fast_face r c s k ≡ true
          here zero m f = rw (e, f)
          here (suc k) m f = rw (ne_eqb (suc k) r.n (λ d. omega arith), f) (or_true (right_fast k))

      pub right_side : left_fast i ≡ false → right_fast i ≡ true → Lowest (suc i)
      unfolding fast_face
      right_side f g = record { below = omega arith; has = rw g; under = λ j m. at j m (ℕ_discrete j i) }
        where
          at : (j : ℕ) → j < suc i → Dec (j ≡ i) → fast_face r c s j ≡ false
          at j m (yes d) = rw d (slow_face i l w f)
          at j m (no d) = slow_faces i (omega arith) w j (omega (arith, d))

    -- no cell has a fast side
    module _ (o : 0 < r.n) (w : SlowBelow r.n) where
      pub right_inflow : inflow_right ≡ true → Lowest r.n
      right_inflow f = record {
        below = omega arith;
        has = last_face o ∙ rw f (or_true (right_fast (r.n - 1)));
        under = slow_faces r.n (omega arith) w;
      }

      pub no_face : inflow_right ≡ false → some (fast_face r c s) (suc r.n) ≡ false
      no_face f = none_some (fast_face r c s) (suc r.n) (λ j l. at j l (ℕ_discrete j r.n))
        where
          at : (j : ℕ) → j < suc r.n → Dec (j ≡ r.n) → fast_face r c s j ≡ false
          at j l (yes d) = ap (fast_face r c s) d ∙ last_face o ∙ rw ((w (r.n - 1) (omega arith)).1, f)
          at j l (no d) = slow_faces r.n (omega arith) w j (omega (arith, d))
