-- What the functions of a step answer: the checks in their order, and what the tables then hold.
use Rattle.std.specs.Prelude.{◌≡◌, false, List, [], ◌∷◌, ◌++◌, ℕ, suc, ◌<◌, get_or, ℤ, pos, Option, None}
use Rattle.tables.specs.Some.{some}
use Rattle.tables.specs.Rows.{Written, Filled}
use Rattle.tables.specs.Cells.{as_list, cell_in, seen, Holds}
use Rattle.rules.specs.Reach.{Reach, Call, State, bed_at}
use Rattle.rules.specs.Stage.{face_at, stage}
use Rattle.rules.specs.Finishing.{finish}
use Rattle.rules.specs.Step.{rubbed, stage_one, next}
use Rattle.rules.specs.Refusals.{bad_bed, bad_rough, off_cell, off, fast_cell, fast_face, Check, each, stage_checks}
use Rattle.rules.specs.Found.{Found, found}
use Rattle.rules.specs.Laws.Agree.{Same}
use Rattle.reach.specs.declared.Reach.{Reach as ToldReach}
use Rattle.reach.specs.declared.Call.{Call as ToldCall}
use Rattle.reach.specs.Places.{first_place}
use Rattle.reach.specs.Told.{reach_in, call_on}
use Rattle.reach.specs.Ranges.{Wides}
use Rattle.stage.specs.declared.rows.FaceRow.{FaceRow}
use Rattle.stage.specs.Ranges.{Smalls, Ranged, FaceRows}
use Rattle.stage.specs.Rows.{sides_at, fast_sides, SlowEnds, no_row, face_row, join_at}

-- checks 3 to 5 and the friction speeds, at a dry depth
abbrev pub ready_checks : ℤ → ℕ → List ℤ → List ℕ → State → List Check
ready_checks dry n bed friction s =
    each 3 (suc n) (λ i. bad_bed (get_or bed i (pos 0)))
    ∷ each 4 n (λ i. bad_rough (pos (get_or friction i 0)))
    ∷ each 5 n (λ i. off_cell (bed_at bed i) (s i))
    ∷ each 6 n (λ i. fast_cell dry (bed_at bed i) (s i))
    ∷ []

-- the range of a finished state t; and a stage's checks with it
abbrev pub range_check : Reach → State → List Check
range_check r t = each 8 r.n (off r t) ∷ []

abbrev pub half_checks : Reach → Call → State → State → List Check
half_checks r c s t = stage_checks r c s ++ range_check r t

-- the checks from stage one on
abbrev pub both_checks : Reach → Call → State → List Check
both_checks r c s = half_checks r c (rubbed r c s) (stage_one r c s) ++ half_checks r c (stage_one r c s) (next r c s)

-- the cells of a lent state, in the first n places of a table; they are no wider than its numbers
pub record LoadSays (n : ℕ) (state : List ℤ) (old new : List (List ℤ)) : Type 0 where
  pub cells : Filled [] old new n (λ i. as_list (cell_in n state i))
  pub wide : Wides n (seen new)

-- a table shows a state in the reach
abbrev pub Shows : Reach → List (List ℤ) → State → Type 0
Shows r t s = Same r (seen t) s

-- the rows of the faces of a state, and their sizes
pub record FacesOf (r : Reach) (c : Call) (s : State) (f : List FaceRow) : Type 0 where
  pub rows : Written no_row f (suc r.n) (λ i. face_row r.dx c.dt (face_at r c s i))
  pub sized : FaceRows f r.n

-- the check of the face speeds of a stage from s: the lowest face that it refuses; where there is none what the others ask, with the
-- sides in d
pub record SlowFaces (reach : ToldReach) (call : ToldCall) (bed : List ℤ) (s : State) (d : List (List ℤ)) : Type 0 where
  pub least : 0 < reach.n
  pub sides : Written [] d reach.n (sides_at call.dry bed s)
  pub slow_sides : some (fast_sides call.dry bed s) reach.n ≡ false
  pub slow_ends : SlowEnds reach call d

pub record FaceSpeedsSay (reach : ToldReach) (call : ToldCall) (bed : List ℤ) (s : State) (k : Option ℕ) (d : List (List ℤ)) : Type 0 where
  pub stops : (ρ : ℕ → ℤ) → k ≡ first_place (fast_face (reach_in reach bed) (call_on call ρ) s) (suc reach.n)
  pub slow : k ≡ None → SlowFaces reach call bed s d

-- a stage from s: 6, 7 or 0, and where it is 0 the rows of its faces in f and the unfinished state in u
pub record StageDone (r : Reach) (c : Call) (s : State) (f : List FaceRow) (u : List (List ℤ)) : Type 0 where
  pub faces : FacesOf r c s f
  pub cells : Holds u r.n (stage r c s)
  pub small : Smalls r.n (stage r c s)

pub record StageSays (r : Reach) (c : Call) (s : State) (k : Found) (f : List FaceRow) (u : List (List ℤ)) : Type 0 where
  pub found : k ≡ found (stage_checks r c s)
  pub done : k.no ≡ 0 → StageDone r c s f u

-- the end state before it is finished: a after friction and u after stage two, joined into j by the faces f and h
pub record JoinSays (n : ℕ) (a u : State) (f h : List FaceRow) (j : List (List ℤ)) : Type 0 where
  pub cells : Holds j n (join_at a u f h)

-- the end of a stage that left the state v: 8 or 0, and the finished state in b
pub record EndSays (r : Reach) (c : Call) (v : State) (k : Found) (b : List (List ℤ)) : Type 0 where
  pub found : k ≡ found (range_check r (finish r c v))
  pub cells : Holds b r.n (finish r c v)

-- a half of the step, the stage from s that is finished to t: 6, 7, 8 or 0, and where it is 0 its faces in f and t in b
pub record HalfDone (r : Reach) (c : Call) (s t : State) (f : List FaceRow) (b : List (List ℤ)) : Type 0 where
  pub faces : FacesOf r c s f
  pub cells : Holds b r.n t

pub record HalfSays (r : Reach) (c : Call) (s t : State) (k : Found) (f : List FaceRow) (b : List (List ℤ)) : Type 0 where
  pub found : k ≡ found (half_checks r c s t)
  pub done : k.no ≡ 0 → HalfDone r c s t f b

-- both halves from s: what the first that stopped found, or 0, and then the faces of the two and the next state in b
pub record BothDone (r : Reach) (c : Call) (s : State) (f h : List FaceRow) (b : List (List ℤ)) : Type 0 where
  pub one : FacesOf r c (rubbed r c s) f
  pub two : FacesOf r c (stage_one r c s) h
  pub cells : Holds b r.n (next r c s)

pub record StepSays (r : Reach) (c : Call) (s : State) (k : Found) (f h : List FaceRow) (b : List (List ℤ)) : Type 0 where
  pub found : k ≡ found (both_checks r c s)
  pub done : k.no ≡ 0 → BothDone r c s f h b

-- ---- in tables: whatever the friction ρ, and whatever state s it left as the table a shows
module _ (reach : ToldReach) (call : ToldCall) (bed : List ℤ) where
  -- stage one from a
  pub record OneSays (a : List (List ℤ)) (k : Found) (f : List FaceRow) (b : List (List ℤ)) : Type 0 where
    pub half : (ρ : ℕ → ℤ) (s : State) → let r : Reach = reach_in reach bed in let c : Call = call_on call ρ in
        Shows r a (rubbed r c s) → HalfSays r c (rubbed r c s) (stage_one r c s) k f b
    -- and what stage two asks
    pub sized : k.no ≡ 0 → FaceRows f reach.n
    pub ranged : k.no ≡ 0 → Ranged bed reach.n (seen b)

  -- stage two from b, which shows stage one with its faces in f
  abbrev pub TwoSays : List (List ℤ) → List FaceRow → List (List ℤ) → Found → List FaceRow → List (List ℤ) → Type 0
  TwoSays a f b k h y = (ρ : ℕ → ℤ) (s : State) → let r : Reach = reach_in reach bed in let c : Call = call_on call ρ in
      Shows r a (rubbed r c s) → FacesOf r c (rubbed r c s) f → Shows r b (stage_one r c s)
      → HalfSays r c (stage_one r c s) (next r c s) k h y

  -- both from a
  abbrev pub BothSay : List (List ℤ) → Found → List FaceRow → List FaceRow → List (List ℤ) → Type 0
  BothSay a k f h b = (ρ : ℕ → ℤ) (s : State) → let r : Reach = reach_in reach bed in let c : Call = call_on call ρ in
      Shows r a (rubbed r c s) → StepSays r c s k f h b
