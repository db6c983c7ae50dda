-- What the functions of the step answer: the checks in their order, and what the tables then hold.
use Rattle.std.specs.Prelude.{◌≡◌, List, [], ◌∷◌, ◌++◌, ℕ, suc, ◌<◌, get_or, ℤ, pos, Option, None}
use Rattle.tables.specs.Rows.{Written}
use Rattle.tables.specs.Pools.{as_row, pool_in, pool_table}
use Rattle.rules.specs.Refusals.{bad_rough, Check, each}
use Rattle.rules.specs.Found.{Found, found}
use Rattle.rules.specs.Lent.{Outcome, outcome}
use Rattle.sill_rules.specs.Reach.{Reach, Call, State}
use Rattle.sill_rules.specs.Step.{rubbed, face_at, next, carry}
use Rattle.sill_rules.specs.Refusals.{bad_bed, off_pool, off, fast_friction, fast_face, too_long}
use Rattle.reach.specs.Places.{first_place}
use Rattle.sill.specs.declared.rows.Call.{Call as ToldCall}
use Rattle.sill.specs.declared.rows.Row.{Row}
use Rattle.sill.specs.declared.rows.FaceRow.{FaceRow}
use Rattle.sill.specs.Told.{reach_in, call_in}
use Rattle.sill.specs.Rows.{row_at, no_row, no_face, face_row}
use Rattle.sill.specs.Ranges.{Fits}

-- checks 3 to 5 of the lent tables
abbrev pub ready_checks : ℕ → List ℤ → List ℕ → List ℤ → List Check
ready_checks n bed friction state =
    each 3 n (λ i. bad_bed (get_or bed i (pos 0)))
    ∷ each 4 n (λ i. bad_rough (pos (get_or friction i 0)))
    ∷ each 5 n (λ i. off_pool (get_or bed i (pos 0)) (pool_in n state i))
    ∷ []

-- those of the stage from s: the friction speeds, the face speeds, the faces, and the end state
abbrev pub stage_checks : Reach → Call → State → List Check
stage_checks r c s =
    each 6 r.n (fast_friction r c s)
    ∷ each 6 (suc r.n) (fast_face r c (rubbed r c s))
    ∷ each 7 (suc r.n) (too_long r c (rubbed r c s))
    ∷ each 8 r.n (off r (next r c s))
    ∷ []

-- the check of the friction speeds of s: the lowest cell that it refuses, or none; and then the rows of the cells after friction, in b
pub record RubSays (r : Reach) (c : Call) (s : State) (k : Option ℕ) (b : List Row) : Type 0 where
  pub stops : k ≡ first_place (fast_friction r c s) r.n
  pub rows : k ≡ None → Written no_row b r.n (row_at r c.dry (rubbed r c s))

-- the stage from s: what its checks found, and where that is none the rows of its faces in f and the end state in a
pub record StageDone (r : Reach) (c : Call) (s : State) (f : List FaceRow) (a : List (List ℤ)) : Type 0 where
  pub faces : Written no_face f (suc r.n) (λ i. face_row r.dx c.dt (face_at r c (rubbed r c s) i))
  pub pools : Written [] a r.n (λ i. as_row (next r c s i))
  pub fits : (i : ℕ) → i < r.n → Fits (next r c s i)

pub record StageSays (r : Reach) (c : Call) (s : State) (k : Found) (f : List FaceRow) (a : List (List ℤ)) : Type 0 where
  pub found : k ≡ found (stage_checks r c s)
  pub done : k.no ≡ 0 → StageDone r c s f a

-- the checks after 2, and the step on tables
abbrev pub tables_outcome : ToldCall → List ℤ → List ℕ → List ℤ → Outcome
tables_outcome call bed friction state =
    let r : Reach = reach_in call bed in let c : Call = call_in call (λ i. pos (get_or friction i 0)) in
    let s : State = pool_in call.n state in
    outcome (ready_checks call.n bed friction state ++ stage_checks r c s) (pool_table call.n (next r c s))
    (carry r c s 0) (carry r c s call.n)
