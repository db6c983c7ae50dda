-- Finishing from the other end: the same cells are marked, spared and limited, and each is finished to the turned one.
-- Assumes nothing.
use Rattle.std.specs.Prelude.{◌≡◌, refl, Bool, true, false, not, ◌&&◌, ◌||◌, ℤ, pos, ◌-ℤ◌, ◌≤ℤ◌}
use Rattle.std.proofs.Common.{sym, ◌∙◌, arith, eq-eqb}
use Rattle.std.proofs.Math.Path.{ap, ap₂}
use Rattle.std.proofs.Math.Bool.{cond, or_comm}
use Prim.Native.Nat.{ℕ, zero, suc, ◌+◌, ◌<◌}
use Rattle.std.proofs.Math.IntN.{neg_ℤ}
use Rattle.std.specs.Int.Signed.{lt_z}
use Rattle.whole.specs.Flags.{cond_map}
use Rattle.whole.specs.Difference.{at, ◌⊞◌, ◌⊟◌, ⊖, eq!, sub_swap}
use Rattle.whole.specs.Choice.{size_z, size_neg}
use Rattle.tables.specs.Cells.{Cell}
use Rattle.rules.specs.Reach.{Reach, Call, State, el, er, Bed, under, h0, shallow}
use Rattle.rules.specs.Finishing.{parted, marked, shallow_at, shallow_left, shallow_right, spared, is_limited}
use Rattle.rules.specs.Finishing.{minmod, with_right, with_left, limited, limit, cut, dried, finish}
use Rattle.rules.proofs.Laws.Minmod.{minmod_odd, either_first}
use Rattle.rules.proofs.Laws.Limiter.{not_last}
use Rattle.survey.specs.Turned.{turned_cell}
use Rattle.survey.proofs.Laws.CellTwice.{cell_is}
use Rattle.survey.proofs.Laws.Cell.{turned_bed, shallow_turned, cut_turned, dried_turned}
use Rattle.survey.proofs.Laws.Surveys.{Surveys, other_reach, other_call, Opposite, under_turned}
use Rattle.survey.proofs.Laws.Surveys.{Turned, TurnsInto, from_other, opposite_cell}

-- ---- who is marked: a cell with a jump of the level at its left face, if that is an inner one, or at its right
abbrev parted_left : Reach → Call → State → ℕ → Bool
parted_left r c s zero = false
parted_left r c s (suc i) = parted r c s i

marked_is : (r : Reach) (c : Call) (s : State) (i : ℕ) → marked r c s i ≡ (parted_left r c s i || parted r c s i)
unfolding marked
marked_is r c s zero = refl
marked_is r c s (suc i) = refl

-- the levels at a face differ by as much, seen from either end
gap_turned : (x y : Cell) → size_z (el (turned_cell x) -ℤ er (turned_cell y)) ≡ size_z (el y -ℤ er x)
gap_turned x y = ap size_z (eq! (at x.e0 ⊟ ⊖ (at x.e1) ⊟ (at y.e0 ⊞ ⊖ (at y.e1)))
    (⊖ (at y.e0 ⊟ at y.e1 ⊟ (at x.e0 ⊞ at x.e1))) (omega arith)) ∙ size_neg (el y -ℤ er x)

parted_left_lem : TurnsInto parted_left parted
unfolding parted
parted_left_lem v s t w zero j o = rw (eq-eqb (suc j) v.reach.n (omega arith))
parted_left_lem v s t w (suc i) j o = rw (not_last i v.reach.n (omega arith), not_last j v.reach.n (omega arith))
    (ap (lt_z v.call.jump) (ap₂ (λ (x y : Cell). size_z (el x -ℤ er y)) (w (suc i) j (omega arith)) (w i (suc j) (omega arith))
    ∙ gap_turned (s j) (s (suc j))))

marked_turned : TurnsInto marked marked
marked_turned v s t w i j o =
    marked_is (other_reach v) (other_call v) t i
    ∙ ap₂ ◌||◌ (parted_left_lem v s t w i j o) (from_other parted_left parted parted_left_lem v s t w i j o)
    ∙ or_comm (parted v.reach v.call s j) (parted_left v.reach v.call s j) ∙ sym (marked_is v.reach v.call s j)

-- ---- who is spared
shallow_at_lem : (d : ℤ) → TurnsInto (λ r c. shallow_at d r) (λ r c. shallow_at d r)
shallow_at_lem d v s t w = opposite_cell v s t w (shallow d) (shallow d) (shallow_turned d)

shallow_left_lem : (d : ℤ) → TurnsInto (λ r c. shallow_left d r) (λ r c. shallow_right d r)
unfolding shallow_left shallow_right
shallow_left_lem d v s t w zero j o = rw (eq-eqb (suc j) v.reach.n (omega arith))
shallow_left_lem d v s t w (suc i) j o = rw (not_last j v.reach.n (omega arith)) (shallow_at_lem d v s t w i (suc j) (omega arith))

spared_turned : (d : ℤ) → TurnsInto (λ r c. spared d r) (λ r c. spared d r)
unfolding spared
spared_turned d v s t w i j o =
    (λ m. shallow_at_lem d v s t w i j o m || shallow_left_lem d v s t w i j o m
    || from_other (λ r c. shallow_left d r) (λ r c. shallow_right d r) (shallow_left_lem d) v s t w i j o m)
    ∙ swap (shallow_at d v.reach s j) (shallow_right d v.reach s j) (shallow_left d v.reach s j)
  where
    swap : (a b c : Bool) → (a || b || c) ≡ (a || c || b)
    swap true b c = refl
    swap false b c = or_comm b c

limits_turned : TurnsInto is_limited is_limited
unfolding is_limited
limits_turned v s t w i j o = λ m. marked_turned v s t w i j o m && not (spared_turned v.call.dry v s t w i j o m)

-- ---- the slopes. f is what turning does to one: a level slope changes its sign, a discharge slope does not. minmod goes with either, and
-- so do the differences of the means that a slope is held to
module _ (v : Surveys) (f : ℤ → ℤ) (fair : (a b : ℤ) → minmod (f a) (f b) ≡ f (minmod a b)) (m m' : ℕ → ℤ)
    (rises : (i j : ℕ) → suc (suc (i + j)) ≡ v.reach.n → m' (suc i) -ℤ m' i ≡ f (m (suc j) -ℤ m j)) (x : ℤ) where
  held_left : (y : ℤ) (i j : ℕ) → Opposite v i j → with_left m' i (f y) ≡ f (with_right v.reach m j y)
  unfolding with_left with_right
  held_left y zero j o = rw (eq-eqb (suc j) v.reach.n (omega arith))
  held_left y (suc i) j o = rw (not_last j v.reach.n (omega arith))
      (ap (minmod (f y)) (rises i j (omega arith)) ∙ fair y (m (suc j) -ℤ m j))

  held_right : (i j : ℕ) → Opposite v i j → with_right (other_reach v) m' i (f x) ≡ f (with_left m j x)
  unfolding with_left with_right
  held_right i zero o = rw (eq-eqb (suc i) v.reach.n (omega arith))
  held_right i (suc j) o = rw (not_last i v.reach.n (omega arith))
      (ap (minmod (f x)) (rises i j (omega arith)) ∙ fair x (m (suc j) -ℤ m j))

  limited_turned : (i j : ℕ) → Opposite v i j → limited (other_reach v) m' i (f x) ≡ f (limited v.reach m j x)
  unfolding limited
  limited_turned i j o =
      ap (with_left m' i) (held_right i j o) ∙ held_left (with_left m j x) i j o ∙ ap f (sym (either_first v.reach m j x))

module _ (v : Surveys) (s t : State) (w : Turned v s t) where
  -- a level slope turns, a discharge slope stays
  e1_limited : (i j : ℕ) → Opposite v i j
      → limited (other_reach v) (λ a. (t a).e0) i (neg_ℤ (s j).e1) ≡ neg_ℤ (limited v.reach (λ a. (s a).e0) j (s j).e1)
  e1_limited i j = limited_turned v neg_ℤ minmod_odd (λ a. (s a).e0) (λ a. (t a).e0)
      (λ i j o. ap₂ (λ (x y : Cell). x.e0 -ℤ y.e0) (w (suc i) j (omega arith)) (w i (suc j) (omega arith))
      ∙ sub_swap (s j).e0 (s (suc j)).e0) (s j).e1 i j

  q1_limited : (i j : ℕ) → Opposite v i j
      → limited (other_reach v) (λ a. (t a).q0) i (s j).q1 ≡ limited v.reach (λ a. (s a).q0) j (s j).q1
  q1_limited i j = limited_turned v (λ z. z) (λ a b. refl) (λ a. (s a).q0) (λ a. (t a).q0)
      (λ i j o. ap₂ (λ (x y : Cell). x.q0 -ℤ y.q0) (w (suc i) j (omega arith)) (w i (suc j) (omega arith))
      ∙ eq! (⊖ (at (s j).q0) ⊟ ⊖ (at (s (suc j)).q0)) (at (s (suc j)).q0 ⊟ at (s j).q0) (omega arith)) (s j).q1 i j

  limit_turned : Turned v (limit v.reach v.call s) (limit (other_reach v) (other_call v) t)
  unfolding limit
  limit_turned i j o =
      let b = limits_turned v s t w i j o in let x = w i j o in let d = is_limited v.reach v.call s j in
      cell_is (limit (other_reach v) (other_call v) t i) (turned_cell (limit v.reach v.call s j))
      (ap (λ (y : Cell). y.e0) x)
      ((λ m. cond (b m) (limited (other_reach v) (λ a. (t a).e0) i (x m).e1) (x m).e1)
      ∙ ap (λ (z : ℤ). cond d z (neg_ℤ (s j).e1)) (e1_limited i j o)
      ∙ cond_map neg_ℤ d (limited v.reach (λ a. (s a).e0) j (s j).e1) (s j).e1)
      (ap (λ (y : Cell). y.q0) x)
      ((λ m. cond (b m) (limited (other_reach v) (λ a. (t a).q0) i (x m).q1) (x m).q1)
      ∙ ap (λ (z : ℤ). cond d z (s j).q1) (q1_limited i j o))

  -- a cut is turned where the mean depth is not below nought
  pub finish_turned : ((j : ℕ) → j < v.reach.n → pos 0 ≤ℤ h0 (under v.reach j) (s j))
      → Turned v (finish v.reach v.call s) (finish (other_reach v) (other_call v) t)
  unfolding finish limit h0
  finish_turned h i j o = let dry = v.call.dry in let b = under v.reach j in let x = limit v.reach v.call s j in
      ap₂ (λ (b : Bed) (x : Cell). dried dry b (cut b x)) (under_turned v i j o) (limit_turned i j o)
      ∙ ap (dried dry (turned_bed b)) (cut_turned b x (h j (omega arith))) ∙ dried_turned b (cut b x) dry
