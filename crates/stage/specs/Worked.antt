-- To be believed. What the public function says, by the cases of its answer.
use Rattle.std.specs.Prelude.{◌≡◌, List, ◌++◌, ℕ, ◌<◌, get_or, ℤ, pos, Ok, Err}
use Rattle.tables.specs.Cells.{cell_in, table_of}
use Rattle.rules.specs.Reach.{Reach, Call, State}
use Rattle.rules.specs.Step.{carry, next}
use Rattle.rules.specs.Lent.{Lent, reach_of, call_of, state_of}
use Rattle.rules.specs.Found.{Found, at, found, found_of}
use Rattle.reach.specs.declared.Reach.{Reach as ToldReach}
use Rattle.reach.specs.declared.Call.{Call as ToldCall}
use Rattle.reach.specs.declared.Given.{Given}
use Rattle.reach.specs.Refusals.{number_of}
use Rattle.reach.specs.Gives.{Answer}
use Rattle.reach.specs.Told.{end_in, reach_in, call_on}
use Rattle.reach.specs.Ranges.{UpTo}
use Rattle.stage.specs.Ranges.{most_volume}
use Rattle.stage.specs.Says.{ready_checks, both_checks}

-- a volume that crosses a face, of any reach
abbrev pub Volume : ℤ → Type 0
Volume w = UpTo most_volume w

-- what the checks found, k, and the table as it was; or the two volumes, and the new state in the table
pub record Stopped (k m : Found) (old new : List ℤ) : Type 0 where
  pub found : m ≡ k
  pub some : 0 < m.no
  pub kept : new ≡ old

pub record Went (r : Reach) (c : Call) (s : State) (k : Found) (w v : ℤ) (new : List ℤ) : Type 0 where
  pub none : k.no ≡ 0
  pub left : w ≡ carry r c s 0
  pub right : v ≡ carry r c s r.n
  pub cells : new ≡ table_of r.n (next r c s)
  pub left_in : Volume w
  pub right_in : Volume v

abbrev pub Says : Reach → Call → State → Found → Answer → List ℤ → List ℤ → Type 0
Says r c s k (Err e) old new = Stopped k (at (number_of e.refusal) e.place) old new
Says r c s k (Ok v) old new = Went r c s k v.first v.last new

-- the checks after 2, and the step on tables
abbrev pub TablesSay : ToldReach → ToldCall → List ℤ → List ℕ → List ℤ → Answer → List ℤ → List ℤ → Type 0
TablesSay reach call bed friction state w old new =
    let r : Reach = reach_in reach bed in let c : Call = call_on call (λ i. pos (get_or friction i 0)) in
    let s : State = cell_in reach.n state in
    Says r c s (found (ready_checks call.dry reach.n bed friction s ++ both_checks r c s)) w old new

-- what is lent and given
abbrev pub lent_by : List ℤ → ℕ → List ℤ → List ℕ → Given → Lent
lent_by state room bed friction g = record {
  now = state;
  room = room;
  bed = bed;
  friction = friction;
  dx = g.dx;
  dt = g.dt;
  jump = g.jump;
  dry = g.dry;
  left = end_in g.left;
  right = end_in g.right;
}

abbrev pub WorkedSays : Lent → Answer → List ℤ → List ℤ → Type 0
WorkedSays a w old new = Says (reach_of a) (call_of a) (state_of a) (found_of a) w old new
