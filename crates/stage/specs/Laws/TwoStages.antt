-- The two halves make the step: tables that show its states, the checks in their order, and the volumes.
-- Assumes nothing.
use Rattle.std.specs.Prelude.{◌≡◌, List, ℕ, suc, ◌<◌, ℤ}
use Rattle.std.proofs.Common.{◌∙◌, arith}
use Rattle.std.proofs.Math.Path.{ap}
use Rattle.tables.specs.Cells.{as_cell, as_list, seen}
use Rattle.rules.specs.Reach.{Reach, Call, State}
use Rattle.rules.specs.Stage.{stage}
use Rattle.rules.specs.Finishing.{finish}
use Rattle.rules.specs.Step.{rubbed, stage_one, half, carry, joined_cell, joined, next}
use Rattle.rules.specs.Refusals.{stage_checks}
use Rattle.rules.specs.Laws.Agree.{Same}
use Rattle.rules.proofs.Laws.Agree.{face_at_same, stage_same, finish_same, off_same, stage_checks_same}
use Rattle.rules.specs.Found.{Found, found}
use Rattle.rules.proofs.Laws.Verdicts.{stopped, went_on}
use Rattle.rules.proofs.Laws.Alike as alike
use Rattle.rules.proofs.Laws.Alike.{also, same_found}
use Rattle.stage.specs.declared.rows.FaceRow.{FaceRow}
use Rattle.stage.specs.Rows.{face_row, volume_at}
use Rattle.stage.specs.Says.{range_check, half_checks, Shows, FacesOf, StageDone, StageSays, JoinSays, EndSays, HalfSays}
use Rattle.stage.specs.Says.{BothDone, StepSays}

-- ---- a half, in a reach and a call of any kind
module _ {r : Reach} {c : Call} (o : 0 < r.n) where
  faces_same : {s t : State} {f : List FaceRow} → Same r s t → FacesOf r c s f → FacesOf r c t f
  faces_same {s} {t} e h =
      record { rows = λ i l. h.rows i l ∙ ap (face_row r.dx c.dt) (face_at_same r c s t e o i l); sized = h.sized }

  -- the table a shows s; the stage from it may stop,
  module _ (a : List (List ℤ)) {s : State} (e : Shows r a s) {k : Found} {f : List FaceRow} {u : List (List ℤ)}
      (one : StageSays r c (seen a) k f u) where
    found_one : k ≡ found (stage_checks r c s)
    found_one = one.found ∙ same_found (stage_checks_same r c (seen a) s e o)

    pub half_stops : (k.no ≡ 0 → ⊥) → {t : State} {g : List FaceRow} {b : List (List ℤ)} → HalfSays r c s t k g b
    half_stops h {t} = record { found = stopped (stage_checks r c s) (range_check r t) k found_one h; done = λ z. absurd (h z) }

    -- or go on and end with a state v that is finished to t
    pub half_ends : k.no ≡ 0 → {v t : State} {m : Found} {b : List (List ℤ)} → Same r (finish r c v) t → EndSays r c v m b
        → HalfSays r c s t m f b
    unfolding stage_checks
    half_ends z {v} {t} d end = record {
      found = end.found
          ∙ same_found (also (off_same r c (finish r c v) t d) alike.end)
          ∙ went_on (stage_checks r c s) (range_check r t) tt found_one z;
      done = λ y. record {
        faces = faces_same e (one.done z).faces;
        cells = λ i l. end.cells i l ∙ ap as_list (d i l);
      };
    }

  -- ---- the states of the two halves, in tables
  module _ (s : State) (a : List (List ℤ)) (sa : Shows r a (rubbed r c s)) where
    pub one_state : {f : List FaceRow} {u : List (List ℤ)} → StageDone r c (seen a) f u → Same r (finish r c (seen u)) (stage_one r c s)
    unfolding stage_one
    one_state {f} {u} d =
        finish_same r c (seen u) (stage r c (rubbed r c s))
        (λ i l. ap as_cell (d.cells i l) ∙ stage_same r c (seen a) (rubbed r c s) sa i l)

    module _ (b : List (List ℤ)) (sb : Shows r b (stage_one r c s)) {f h : List FaceRow} {u j : List (List ℤ)}
        (ff : FacesOf r c (rubbed r c s) f) (d : StageDone r c (seen b) h u) (joint : JoinSays r.n (seen a) (seen u) f h j) where
      -- W at face i, and the cell after stage two
      across : (i : ℕ) → i < suc r.n → volume_at f h i ≡ carry r c s i
      unfolding carry
      across i l = let two = faces_same sb d.faces in λ k. half (ff.rows i l k).volume (two.rows i l k).volume

      after : (i : ℕ) → i < r.n → seen u i ≡ stage r c (stage_one r c s) i
      after i l = ap as_cell (d.cells i l) ∙ stage_same r c (seen b) (stage_one r c s) sb i l

      pub two_state : Same r (finish r c (seen j)) (next r c s)
      unfolding next joined
      two_state = finish_same r c (seen j) (joined r c s) (λ i l. ap as_cell (joint.cells i l)
          ∙ (λ k. joined_cell (sa i l k) (after i l k) (across i (omega arith) k) (across (suc i) (omega arith) k)))

-- ---- both
module _ {r : Reach} {c : Call} (s : State) {k : Found} {f : List FaceRow} {b : List (List ℤ)}
    (one : HalfSays r c (rubbed r c s) (stage_one r c s) k f b) where
  pub both_stop : (k.no ≡ 0 → ⊥) → {h : List FaceRow} {y : List (List ℤ)} → StepSays r c s k f h y
  both_stop z = record {
    found = stopped (half_checks r c (rubbed r c s) (stage_one r c s)) (half_checks r c (stage_one r c s) (next r c s)) k one.found z;
    done = λ e. absurd (z e);
  }

  pub one_shown : k.no ≡ 0 → Shows r b (stage_one r c s)
  one_shown z i l = ap as_cell ((one.done z).cells i l)

  pub both_end : k.no ≡ 0 → {m : Found} {h : List FaceRow} {y : List (List ℤ)} → HalfSays r c (stage_one r c s) (next r c s) m h y
      → StepSays r c s m f h y
  unfolding stage_checks
  both_end z two = record {
    found = two.found
        ∙ went_on (half_checks r c (rubbed r c s) (stage_one r c s)) (half_checks r c (stage_one r c s) (next r c s)) tt one.found z;
    done = λ e. record { one = (one.done z).faces; two = (two.done e).faces; cells = (two.done e).cells };
  }

-- the volumes of a step that both made
pub volume_is : {r : Reach} {c : Call} {s : State} {f h : List FaceRow} {b : List (List ℤ)} → BothDone r c s f h b
    → (i : ℕ) → i < suc r.n → volume_at f h i ≡ carry r c s i
unfolding carry
volume_is d i l = λ k. half (d.one.rows i l k).volume (d.two.rows i l k).volume
