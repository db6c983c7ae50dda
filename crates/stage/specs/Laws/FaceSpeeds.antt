-- The check of the face speeds, which looks at the cells one after another and at the two ends: the face that it answers is the lowest
-- that is too fast.
-- Assumes nothing.
use Rattle.std.specs.Prelude.{◌≡◌, Bool, true, false, cond, List, [], ℕ, suc, ◌-◌, ◌≤◌, ◌<◌, get_or, ℤ, None, Some}
use Rattle.std.proofs.Common.{sym, ◌∙◌, ap, arith}
use Rattle.std.proofs.Math.Path.{subst}
use Rattle.whole.specs.Flags.{by}
use Rattle.tables.specs.Some.{IsLowest}
use Rattle.tables.proofs.Some.{lowest_is, lowest_below, lowest_past, below_lowest}
use Rattle.tables.specs.Rows.{Written}
use Rattle.tables.specs.Filling.{FillSays}
use Rattle.tables.proofs.Filling.{all_filled}
use Rattle.rules.specs.Face.{Side}
use Rattle.rules.specs.Reach as rules
use Rattle.rules.specs.Reach.{State, hl, hr, side_l, side_r, bed_at}
use Rattle.rules.specs.Refusals.{fast_side, fast_inflow, fast_face}
use Rattle.rules.proofs.Laws.FastFaces.{inflow_left, inflow_right, SlowBelow, left_inflow, left_side, right_side, right_inflow, no_face}
use Rattle.reach.specs.declared.Reach.{Reach}
use Rattle.reach.specs.declared.Call.{Call}
use Rattle.reach.specs.Places.{lowest_place, none_found, never}
use Rattle.reach.specs.Told.{reach_in, call_on}
use Rattle.stage.specs.Rows.{left_in, right_in, sides_at, fast_sides, fast_left, fast_right, fast_ends}
use Rattle.stage.specs.Ranges.{DepthIn, Ranged}
use Rattle.stage.specs.Says.{FaceSpeedsSay}
use Rattle.stage.specs.Laws.CellSizes.{cell_sizes}
use Rattle.stage.specs.Laws.RowsAreRules.{left_in_lem, right_in_lem, slow_sides}

-- ---- the sides of the state s in d, up to those of cell i, the lowest with one that is too fast
module _
    (reach : Reach) (call : Call) (bed : List ℤ) (s : State) {i : ℕ} {d : List (List ℤ)} (o : 0 < reach.n)
    (filled : FillSays [] reach.n (fast_sides call.dry bed s) (sides_at call.dry bed s) i d) where
  abbrev n : ℕ
  n = reach.n

  abbrev r : rules.Reach
  r = reach_in reach bed

  abbrev c : (ℕ → ℤ) → rules.Call
  c ρ = call_on call ρ

  first_row : get_or d 0 [] ≡ sides_at call.dry bed s 0
  first_row = filled.up_to 0 o (omega arith)

  left_inner : (ρ : ℕ → ℤ) → fast_left reach call d ≡ inflow_left r (c ρ) s
  left_inner ρ = ap (fast_inflow call.dry (c ρ).left) (left_in_lem call.dry bed s d 0 first_row)

  pub first_depth : Ranged bed n s → DepthIn (left_in d 0).h
  unfolding side_l hl
  first_depth inside = let f = (cell_sizes (inside 0 o)).faces in
      subst (λ (x : Side). DepthIn x.h) (sym (left_in_lem call.dry bed s d 0 first_row)) (f.left, f.left_most)

  slow_below : (ρ : ℕ → ℤ) → SlowBelow r (c ρ) s i
  slow_below ρ k l = slow_sides call.dry bed s k
      (below_lowest (fast_sides call.dry bed s) n k (subst (λ (m : ℕ). k < m) filled.stops l))

  -- ---- the inflow at the left end is too fast
  pub says_left_inflow : fast_left reach call d ≡ true → FaceSpeedsSay reach call bed s (Some 0) d
  says_left_inflow e = record {
    stops = λ ρ. lowest_place (fast_face r (c ρ) s) (suc n) 0 (left_inflow r (c ρ) s (sym (left_inner ρ) ∙ e));
    slow = λ none. never (sym none);
  }

  module _ (e : fast_left reach call d ≡ false) where
    slow_left : (ρ : ℕ → ℤ) → inflow_left r (c ρ) s ≡ false
    slow_left ρ = sym (left_inner ρ) ∙ e

    -- ---- it is not, and a side of cell i is
    module _ (l : i < n) where
      abbrev left : Bool
      left = fast_side (left_in d i)

      left_is : left ≡ fast_side (side_l call.dry (bed_at bed i) (s i))
      left_is = ap fast_side (left_in_lem call.dry bed s d i (filled.up_to i l (omega arith)))

      one_fast : fast_sides call.dry bed s i ≡ true
      one_fast = let p = fast_sides call.dry bed s in let is = filled.stops in
          subst (λ (m : ℕ). p m ≡ true) (sym is) (lowest_is p n (lowest_below p n (subst (λ (m : ℕ). m < n) is l))).has

      fast_face_lem : (ρ : ℕ → ℤ) → IsLowest (fast_face r (c ρ) s) (suc n) (cond left i (suc i))
      unfolding fast_sides
      fast_face_lem ρ = by left
          (λ b. rw b (left_side r (c ρ) s (slow_left ρ) i l (slow_below ρ) (sym left_is ∙ b)))
          (λ b. rw b (right_side r (c ρ) s (slow_left ρ) i l (slow_below ρ) (sym left_is ∙ b) (rw (sym left_is ∙ b) at one_fast)))

      pub says_side : {k : ℕ} → k ≡ cond left i (suc i) → FaceSpeedsSay reach call bed s (Some k) d
      says_side q = record {
        stops = λ ρ. ap Some q ∙ lowest_place (fast_face r (c ρ) s) (suc n) (cond left i (suc i)) (fast_face_lem ρ);
        slow = λ none. never (sym none);
      }

    -- ---- no side is, and the inflow at the right end is or is not
    module _ (l : n ≤ i) where
      written : Written [] d n (sides_at call.dry bed s)
      written = all_filled [] n (fast_sides call.dry bed s) (sides_at call.dry bed s) filled l

      last_row : get_or d (n - 1) [] ≡ sides_at call.dry bed s (n - 1)
      last_row = written (n - 1) (omega arith)

      right_inner : (ρ : ℕ → ℤ) → fast_right reach call d ≡ inflow_right r (c ρ) s
      right_inner ρ = ap (fast_inflow call.dry (c ρ).right) (right_in_lem call.dry bed s d (n - 1) last_row)

      pub last_depth : Ranged bed n s → DepthIn (right_in d (n - 1)).h
      unfolding side_r hr
      last_depth inside = let f = (cell_sizes (inside (n - 1) (omega arith))).faces in
          subst (λ (x : Side). DepthIn x.h) (sym (right_in_lem call.dry bed s d (n - 1) last_row)) (f.right, f.right_most)

      slow_all : (ρ : ℕ → ℤ) → SlowBelow r (c ρ) s n
      slow_all ρ k m = slow_below ρ k (omega arith)

      pub says_right_inflow : fast_right reach call d ≡ true → FaceSpeedsSay reach call bed s (Some n) d
      says_right_inflow f = record {
        stops = λ ρ. lowest_place (fast_face r (c ρ) s) (suc n) n
            (right_inflow r (c ρ) s (slow_left ρ) o (slow_all ρ) (sym (right_inner ρ) ∙ f));
        slow = λ none. never (sym none);
      }

      pub says_slow : fast_right reach call d ≡ false → FaceSpeedsSay reach call bed s None d
      unfolding fast_ends
      says_slow f = record {
        stops = λ ρ. none_found (fast_face r (c ρ) s) (suc n)
            (no_face r (c ρ) s (slow_left ρ) o (slow_all ρ) (sym (right_inner ρ) ∙ f));
        slow = λ m. record {
          least = o;
          sides = written;
          slow_sides = lowest_past (fast_sides call.dry bed s) n (subst (λ (k : ℕ). n ≤ k) filled.stops l);
          slow_ends = rw (e, f);
        };
      }
