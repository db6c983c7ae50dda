-- To be believed: `first_place` and `FillStops`.
-- The lowest place that a search through a table finds, where it finds one; and a loop that fills a table up to there.
-- Assumes nothing.
use Rattle.std.specs.Prelude.{◌≡◌, refl, Bool, true, false, cond, List, ℕ, ◌≤◌, ◌<◌, Option, None, Some, unwrap_or}
use Rattle.std.proofs.Common.{sym, ◌∙◌, subst, arith}
use Rattle.whole.specs.Flags.{by}
use Rattle.std.specs.Option.{is_some}
use Rattle.tables.specs.Some.{some, lowest, IsLowest}
use Rattle.tables.specs.Filling.{FillSays}
use Rattle.tables.proofs.Some.{is_lowest, lowest_is, lowest_below, lowest_past, none_some, yes_some}
use Rattle.tables.proofs.Scan.{Scanned}

unfoldable pub first_place : (ℕ → Bool) → ℕ → Option ℕ
first_place p n = cond (some p n) (Some (lowest p n)) None

-- the places up to the lowest that has p, which is the answer, or all n are filled with f's values
pub record FillStops {A : Type 0} (d : A) (n : ℕ) (p : ℕ → Bool) (f : ℕ → A) (r : Option ℕ) (a : List A) : Type 0 where
  pub stops : r ≡ first_place p n
  pub fills : FillSays d n p f (unwrap_or r n) a

-- ---- what a search that has stopped, or ended, answers
pub none_found : (p : ℕ → Bool) (n : ℕ) → some p n ≡ false → None ≡ first_place p n
unfolding first_place
none_found p n e = rw e refl

pub place_found : (p : ℕ → Bool) (n : ℕ) → some p n ≡ true → (i : ℕ) → i ≡ lowest p n → Some i ≡ first_place p n
unfolding first_place
place_found p n e i d = rw (e, d) refl

pub lowest_place : (p : ℕ → Bool) (n i : ℕ) → IsLowest p n i → Some i ≡ first_place p n
lowest_place p n i h = place_found p n (yes_some p n i h.below h.has) i (is_lowest p n i h)

module _ {p : ℕ → Bool} {n i : ℕ} (so_far : Scanned p n i) where
  pub scan_place : {r : Bool} → i < n → p i ≡ r → r ≡ true → Some i ≡ first_place p n
  scan_place l e taken = lowest_place p n i (record { below = l; has = e ∙ taken; under = so_far.none })

  pub scan_no_place : n ≤ i → None ≡ first_place p n
  scan_no_place l = none_found p n (none_some p n (λ k h. so_far.none k (omega arith)))

-- one that fills a table
module _ {A : Type 0} {d : A} {n : ℕ} {p : ℕ → Bool} {f : ℕ → A} {a : List A} where
  pub fill_stopped : (i : ℕ) → i < n → FillSays d n p f i a → FillStops d n p f (Some i) a
  fill_stopped i l says =
      record { stops = place_found p n (lowest_below p n (subst (λ (k : ℕ). k < n) says.stops l)) i says.stops; fills = says }

  pub fill_ended : FillSays d n p f n a → FillStops d n p f None a
  fill_ended says = record { stops = none_found p n (lowest_past p n (subst (λ (k : ℕ). n ≤ k) says.stops (omega arith))); fills = says }

-- ---- and what its answer says
some_is : {i j : ℕ} → Some i ≡ Some j → i ≡ j
some_is e = cc

pub never : {i : ℕ} {P : Type 0} → ◌≡◌ {A = Option ℕ} None (Some i) → P
never e = let z : ◌≡◌ {A = ℕ} 0 1 = cc in let f : ⊥ = omega arith in absurd f

pub found_says : (p : ℕ → Bool) (n i : ℕ) → first_place p n ≡ Some i → (some p n ≡ true) × (i ≡ lowest p n) × (i < n)
unfolding first_place
found_says p n i e = by (some p n)
    (λ d. let is : i ≡ lowest p n = sym (some_is (rw d at e)) in (d, is, rw is ((lowest_is p n d).below)))
    (λ d. never (rw d at e))

pub none_says : (p : ℕ → Bool) (n : ℕ) → first_place p n ≡ None → some p n ≡ false
unfolding first_place
none_says p n e = by (some p n) (λ d. never (sym (rw d at e))) (λ d. d)

pub is_some_place : (p : ℕ → Bool) (n : ℕ) → is_some (first_place p n) ≡ some p n
unfolding first_place
is_some_place p n = by (some p n) (λ d. rw d refl) (λ d. rw d refl)
