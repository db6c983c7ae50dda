-- A stage: what it answers by the check that stopped it, and that its faces and its cells are the rule's.
-- Assumes nothing.
use Rattle.std.specs.Prelude.{◌≡◌, false, List, ℕ, suc, ◌<◌, get_or, ℤ, pos, Option, None, Some, Result, Err}
use Rattle.std.proofs.Common.{sym, ◌∙◌, subst, arith}
use Rattle.std.proofs.Math.Path.{ap}
use Rattle.tables.specs.Some.{some}
use Rattle.tables.proofs.Some.{some_none, some_same, lowest_same}
use Rattle.tables.specs.Rows.{Written}
use Rattle.tables.specs.Cells.{as_list, Holds}
use Rattle.rules.specs.Reach as rules
use Rattle.rules.specs.Reach.{State, bed_at}
use Rattle.rules.specs.Shown.{cross_at}
use Rattle.rules.specs.Stage.{face_right, face_at, stage}
use Rattle.rules.specs.Refusals.{fast_face, fast_gauss, too_long, Check, stage_checks}
use Rattle.rules.specs.Found.{at, found, none}
use Rattle.rules.proofs.Laws.Verdicts.{stops_at, none_stops}
use Rattle.reach.specs.declared.Reach.{Reach}
use Rattle.reach.specs.declared.Call.{Call}
use Rattle.reach.specs.Places.{first_place, found_says, none_says}
use Rattle.reach.specs.declared.answer.Refused.{Refused}
use Rattle.reach.specs.Told.{reach_in, call_on, found_in}
use Rattle.reach.specs.Laws.Refusals.{refused_some}
use Rattle.reach.specs.Ranges.{UpTo, Numbers}
use Rattle.stage.specs.declared.rows.FaceRow.{FaceRow}
use Rattle.stage.specs.Rows.{Sounds, fast_points_at, momentum_at}
use Rattle.stage.specs.Rows.{no_row, face_row, long_flux, long_at, cross_in, face_row_at, update_at}
use Rattle.stage.specs.Rows as rows
use Rattle.stage.specs.Ranges.{most_momentum, Small, Smalls, Ranged, FaceRows, Momenta}
use Rattle.stage.specs.Says.{SlowFaces, FaceSpeedsSay, FacesOf, StageDone, StageSays}
use Rattle.stage.specs.Laws.Faces.{face_rows}
use Rattle.stage.specs.Laws.UpdateSizes.{update_small}
use Rattle.stage.specs.Laws.RowsAreRules.{cross_at_lem, update_is}
use Rattle.stage.specs.Laws.StateSizes.{sounds, gauss_size}

-- ---- a stage from s whose faces have answered k, with its sides in d
module _ {reach : Reach} {call : Call} {bed : List ℤ} {s : State} {k : Option ℕ} {d : List (List ℤ)}
    (says : FaceSpeedsSay reach call bed s k d) (ρ : ℕ → ℤ) where
  abbrev checks : List Check
  checks = stage_checks (reach_in reach bed) (call_on call ρ) s

  pub says_fast : (i : ℕ) → k ≡ Some i → at 6 i ≡ found checks
  unfolding stage_checks
  says_fast i e = let fast = found_says _ (suc reach.n) i (sym (says.stops ρ) ∙ e) in stops_at checks 0 i tt fast.1 fast.2

  module _ (slow : k ≡ None) where
    pub faces_pass : some (fast_face (reach_in reach bed) (call_on call ρ) s) (suc reach.n) ≡ false
    faces_pass = none_says _ (suc reach.n) (sym (says.stops ρ) ∙ slow)

    -- and whose Gauss points have answered p
    pub says_points : {p : Option ℕ} → p ≡ first_place (fast_points_at call.dry bed s) reach.n → (i : ℕ) → p ≡ Some i
        → at 6 i ≡ found checks
    unfolding stage_checks fast_gauss
    says_points e i is = let fast = found_says _ reach.n i (sym e ∙ is) in stops_at checks 1 i (faces_pass, tt) fast.1 fast.2

-- a stage that a check stopped says no more than what it found
pub stage_stops : {r : rules.Reach} {c : rules.Call} {s : State} {f : List FaceRow} {u : List (List ℤ)} {k : Result (Unit {0}) Refused}
    → (e : Refused) → k ≡ Err e → found_in k ≡ found (stage_checks r c s) → StageSays r c s (found_in k) f u
stage_stops e is found = let some = refused_some e.refusal in
    record { found = found; done = λ z. let no = ap (λ k. (found_in k).no) is in let y : ⊥ = omega (arith, some, z, no) in absurd y }

-- the sides of slow faces are sound
pub sides_sound : {reach : Reach} {call : Call} {bed : List ℤ} {s : State} {d : List (List ℤ)}
    → SlowFaces reach call bed s d → Ranged bed reach.n s → Sounds d reach.n
sides_sound {reach} {call} {bed} {s} {d} p inside = sounds call.dry reach.n bed s inside p.slow_sides d p.sides

-- ---- the momenta of points that are not too fast, and the rows of faces whose sides are not, have the sizes that an update asks
pub momenta : (dry : ℤ) (n : ℕ) (bed : List ℤ) (s : State) → Ranged bed n s → some (fast_points_at dry bed s) n ≡ false
    → (g : List ℤ) → Written (pos 0) g n (momentum_at dry bed s) → Momenta g n
momenta dry n bed s inside e g h i l = subst (UpTo most_momentum) (sym (h i l))
    (gauss_size dry (bed_at bed i) (s i) (inside i l) (some_none (fast_points_at dry bed s) n e i l))

-- ---- a stage from s that passed both
pub record Slowed (reach : Reach) (call : Call) (bed : List ℤ) (s : State) (d : List (List ℤ)) : Type 0 where
  pub faces : SlowFaces reach call bed s d
  pub slow_faces : (ρ : ℕ → ℤ) → some (fast_face (reach_in reach bed) (call_on call ρ) s) (suc reach.n) ≡ false
  pub slow_points : some (fast_points_at call.dry bed s) reach.n ≡ false

pub slow_stage : {reach : Reach} {call : Call} {bed : List ℤ} {s : State} {d : List (List ℤ)} {k p : Option ℕ}
    → FaceSpeedsSay reach call bed s k d → k ≡ None → p ≡ first_place (fast_points_at call.dry bed s) reach.n → p ≡ None
    → Slowed reach call bed s d
slow_stage says faces points none = record {
  faces = says.slow faces;
  slow_faces = λ ρ. faces_pass says ρ faces;
  slow_points = none_says _ _ (sym points ∙ none);
}

module _ {reach : Reach} {call : Call} {bed : List ℤ} {s : State} {d : List (List ℤ)} (p : Slowed reach call bed s d) where
  abbrev n : ℕ
  n = reach.n

  pub rows_sized : Ranged bed n s → Numbers reach call → (x : List FaceRow) → Written no_row x (suc n) (face_row_at reach call d)
      → FaceRows x n
  rows_sized inside num = face_rows reach call d p.faces.least num (sides_sound p.faces inside) p.faces.slow_ends

  module _ (ρ : ℕ → ℤ) where
    abbrev r : rules.Reach
    r = reach_in reach bed

    abbrev c : rules.Call
    c = call_on call ρ

    face_is : (i : ℕ) → i < suc n → cross_in reach call d i ≡ face_at r c s i
    face_is = cross_at_lem reach call bed ρ s p.faces.least d p.faces.sides

    -- its last check, by the lowest face at which the step is too long, where there is one
    module _ {k : Option ℕ} (e : k ≡ first_place (long_at reach call d) (suc n)) where
      long_same : (i : ℕ) → i < suc n → long_at reach call d i ≡ too_long r c s i
      unfolding too_long long_flux
      long_same i l = ap (long_flux reach.dx call.dt) (face_is i l)

      pub says_long : (i : ℕ) → k ≡ Some i → at 7 i ≡ found (stage_checks r c s)
      unfolding stage_checks fast_gauss
      says_long i is =
          let long = found_says _ (suc n) i (sym e ∙ is) in
          stops_at (stage_checks r c s) 2 i (p.slow_faces ρ, (p.slow_points, tt)) (long.1 ∙ lowest_same _ (too_long r c s) (suc n) long_same) long.2

      pub says_none : k ≡ None → none ≡ found (stage_checks r c s)
      unfolding stage_checks fast_gauss
      says_none is =
          let short = none_says _ (suc n) (sym e ∙ is) in
          none_stops (stage_checks r c s)
          (p.slow_faces ρ, (p.slow_points, (sym (some_same _ (too_long r c s) (suc n) long_same) ∙ short, tt)))

    -- ---- what it leaves
    module _ (inside : Ranged bed n s) (num : Numbers reach call) (x : List FaceRow) (g : List ℤ)
        (wx : Written no_row x (suc n) (face_row_at reach call d)) (wg : Written (pos 0) g n (momentum_at call.dry bed s)) where
      faces : FacesOf r c s x
      faces = record {
        rows = λ i l. wx i l ∙ ap (face_row reach.dx call.dt) (face_is i l);
        sized = rows_sized inside num x wx;
      }

      cell_is : (i : ℕ) → i < n → update_at reach call bed s x g i ≡ stage r c s i
      unfolding stage cross_at
      cell_is i l = let row = faces.rows in
          (λ k. rows.update_by reach.dx call.dt (bed_at bed i) (s i) (row i (omega arith) k) (row (suc i) (omega arith) k) (wg i l k))
          ∙ update_is reach.dx call.dt call.dry (bed_at bed i) (s i) (face_at r c s i) (face_right r c s i)

      small : Smalls n (stage r c s)
      small i l = let sized = faces.sized in
          subst Small (cell_is i l)
          (update_small (inside i l) reach.dx call.dt (get_or x i no_row) (get_or x (suc i) no_row) (get_or g i (pos 0))
          num.dx_pos num.dt_in (sized i (omega arith)) (sized (suc i) (omega arith)) (momenta call.dry n bed s inside p.slow_points g wg i l))

      pub stage_done : (u : List (List ℤ)) → Holds u n (update_at reach call bed s x g) → StageDone r c s x u
      stage_done u h = record { faces = faces; cells = λ i l. h i l ∙ ap as_list (cell_is i l); small = small }
