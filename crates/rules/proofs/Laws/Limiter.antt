-- Who is marked, who is spared, and what becomes of a spared cell.
-- Assumes nothing.
use Rattle.std.specs.Prelude.{◌≡◌, Bool, false, ◌||◌, eqb, ℤ, ◌-ℤ◌, ◌≤ℤ◌, ◌<ℤ◌}
use Rattle.std.proofs.Math.Path.{refl, ap}
use Rattle.std.proofs.Math.Bool.{true}
use Prim.Native.Nat.{ℕ, zero, suc, ◌<◌}
use Rattle.std.proofs.Common.{arith, ne_eqb}
use Rattle.whole.specs.Flags.{by, or_true}
use Rattle.whole.specs.Tests.{yes_le, yes_lt}
use Rattle.whole.specs.Choice.{size_z}
use Rattle.tables.specs.Cells.{Cell}
use Rattle.rules.specs.Reach.{Reach, Call, State, el, er, under, h0}
use Rattle.rules.specs.Finishing.{parted, marked, shallow_at, shallow_left, shallow_right, spared, is_limited, limit, cut, dried, finish}
use Rattle.rules.proofs.Laws.Shown.{inside}
use Rattle.rules.proofs.Laws.Deep.{Deep, is_deep}

pub not_last : (i n : ℕ) → suc i < n → eqb (suc i) n ≡ false
not_last i n l = ne_eqb (suc i) n (λ e. let z : ⊥ = omega arith in z)

-- ---- where the levels at an inner face differ by more than J both its cells are marked, spared or not
module _ (r : Reach) (c : Call) (s : State) (i : ℕ) (l : suc i < r.n) (far : c.jump <ℤ size_z (el (s (suc i)) -ℤ er (s i))) where
  is_parted : parted r c s i ≡ true
  unfolding parted
  is_parted = rw (not_last i r.n l, yes_lt c.jump (size_z (el (s (suc i)) -ℤ er (s i))) far)

  pub marks_right : marked r c s (suc i) ≡ true
  unfolding marked
  marks_right = rw is_parted

  pub marks_left : marked r c s i ≡ true
  unfolding marked
  marks_left = by_face i is_parted
    where
      by_face : (k : ℕ) → parted r c s k ≡ true → marked r c s k ≡ true
      by_face zero e = e
      by_face (suc k) e = rw e (or_true (parted r c s k))

-- ---- a cell no deeper than d is spared, and so are the neighbours that it has,
module _ (d : ℤ) (r : Reach) (s : State) where
  abbrev Shallow : ℕ → Type 0
  Shallow i = h0 (under r i) (s i) ≤ℤ d

  is_shallow : (i : ℕ) → Shallow i → shallow_at d r s i ≡ true
  is_shallow i h = yes_le (h0 (under r i) (s i)) d h

  pub spares_itself : (i : ℕ) → Shallow i → spared d r s i ≡ true
  unfolding spared
  spares_itself i h = rw (is_shallow i h)

  pub spares_right : (i : ℕ) → Shallow i → spared d r s (suc i) ≡ true
  unfolding spared shallow_left
  spares_right i h = rw (is_shallow i h) (ap (λ (b : Bool). b || shallow_right d r s (suc i)) (or_true (shallow_at d r s (suc i))))

  pub spares_left : (i : ℕ) → suc i < r.n → Shallow (suc i) → spared d r s i ≡ true
  unfolding spared shallow_right
  spares_left i l h = rw (not_last i r.n l, is_shallow (suc i) h) (or_true (shallow_at d r s i || shallow_left d r s i))

  -- and no other is
  none_left : (i : ℕ) → ((k : ℕ) → suc k ≡ i → Deep d r s k) → shallow_left d r s i ≡ false
  unfolding shallow_left
  none_left zero h = refl
  none_left (suc i) h = is_deep d r s i (h i refl)

  none_right : (i : ℕ) → i < r.n → (suc i < r.n → Deep d r s (suc i)) → shallow_right d r s i ≡ false
  unfolding shallow_right
  none_right i l h = by (eqb (suc i) r.n) (λ e. rw e) (λ e. rw e (is_deep d r s (suc i) (h (inside i r.n l e))))

  pub unspared : (i : ℕ) → i < r.n → Deep d r s i → ((k : ℕ) → suc k ≡ i → Deep d r s k) → (suc i < r.n → Deep d r s (suc i)) → spared d r s i ≡ false
  unfolding spared
  unspared i l here left right = λ k. is_deep d r s i here k || none_left i left k || none_right i l right k

-- ---- a spared cell leaves finishing with the slopes it came with, but for the cut and the drying
module _ (r : Reach) (c : Call) (s : State) (i : ℕ) (e : spared c.dry r s i ≡ true) where
  spared_limit : limit r c s i ≡ s i
  unfolding limit is_limited
  spared_limit = by (marked r c s i) (λ m. rw (m, e)) (λ m. rw m)

  pub spared_finish : finish r c s i ≡ dried c.dry (under r i) (cut (under r i) (s i))
  unfolding finish
  spared_finish = ap (λ (x : Cell). dried c.dry (under r i) (cut (under r i) x)) spared_limit
