-- To be believed. What a caller sees of a reach over a stepped bed: the depths and the water of the lent tables, and calls one after
-- another.
use Rattle.std.specs.Prelude.{◌≡◌, Bool, cond, List, ◌∷◌, ◌⊎◌, ℕ, zero, suc, ◌<◌, eqb, length, ℤ, pos, ◌-ℤ◌, ◌≤ℤ◌, ◌<ℤ◌}
use Rattle.whole.specs.Choice.{max_z, size_z}
use Rattle.tables.specs.Columns.{in_column}
use Rattle.rules.specs.Limits.{deepest, fullest}
use Rattle.rules.specs.Refusals.{Check, each, of_call}
use Rattle.rules.specs.Laws.Chain.{Chain}
use Rattle.sill_rules.specs.Refusals.{off, fast_friction, early}
use Rattle.sill_rules.specs.Lent.{Lent, cells_of, reach_of, call_of, state_of, misfits, step_of}
use Rattle.reach.specs.Gives.{Answer, volumes, both, Gives}
use Rattle.editor.specs.Told.{StepTold}
use Rattle.promises.specs.Seen.{at, total}

-- ---- the checks of a call, of which `all_checks` (in `Lent`) has all, in their order
-- those that it has passed when its end state is reached: that is so where none of them is met
unfoldable pub to_end : Lent → List Check
to_end l = of_call 1 (misfits l) ∷ early (reach_of l) (call_of l) (state_of l)

-- check 5: the present state is not in range
abbrev pub check_five : Lent → Check
check_five l = each 5 (cells_of l) (off (reach_of l) (state_of l))

-- a cell whose speed, as friction takes it, is too great
abbrev pub fast_cell : Lent → ℕ → Bool
fast_cell l = fast_friction (reach_of l) (call_of l) (state_of l)

-- ---- cell i of a state of n cells: its table has a column of levels and one of discharges, and its bed a value for each cell
abbrev pub level : List ℤ → ℕ → ℕ → ℤ
level t n i = in_column n t 0 i

abbrev pub discharge : List ℤ → ℕ → ℕ → ℤ
discharge t n i = in_column n t 1 i

unfoldable pub depth : List ℤ → List ℤ → ℕ → ℕ → ℤ
depth bed t n i = level t n i -ℤ at bed i

-- no depth is below nought
abbrev pub NoneBelow : List ℤ → List ℤ → ℕ → Type 0
NoneBelow bed t n = (i : ℕ) → i < n → pos 0 ≤ℤ depth bed t n i

-- some value is too large: a depth is over 262,144, or a discharge over 8,388,608 either way
pub record Excess (bed t : List ℤ) (n : ℕ) : Type 0 where
  pub cell : ℕ
  pub below : cell < n
  pub large : (deepest <ℤ depth bed t n cell) ⊎ (fullest <ℤ size_z (discharge t n cell))

-- the water: the sum of the depths
unfoldable pub water : List ℤ → List ℤ → ℕ → ℤ
water bed t n = total (depth bed t n) n

-- ---- the faces of cell i: of the two beds that meet there the higher counts, at an end of the reach the cell's own
unfoldable pub left_bed : List ℤ → ℕ → ℤ
left_bed bed zero = at bed zero
left_bed bed (suc i) = max_z (at bed i) (at bed (suc i))

unfoldable pub right_bed : List ℤ → ℕ → ℕ → ℤ
right_bed bed n i = cond (eqb (suc i) n) (at bed i) (max_z (at bed i) (at bed (suc i)))

-- its depths there: its level less that bed, or nought
unfoldable pub left_depth : List ℤ → List ℤ → ℕ → ℕ → ℤ
left_depth bed t n i = max_z (pos 0) (level t n i -ℤ left_bed bed i)

unfoldable pub right_depth : List ℤ → List ℤ → ℕ → ℕ → ℤ
right_depth bed t n i = max_z (pos 0) (level t n i -ℤ right_bed bed n i)

-- a lake at rest: no discharge, and at each inner face the depths of the two cells that meet there are equal
pub record Lake (bed t : List ℤ) (n : ℕ) : Type 0 where
  pub calm : (i : ℕ) → i < n → discharge t n i ≡ pos 0
  pub meet : (i : ℕ) → suc i < n → right_depth bed t n i ≡ left_depth bed t n (suc i)

-- ---- calls
-- what a call on a bed with n cells is given besides: friction, a time step, a dry depth and kinds of its ends of its own
pub record Besides (n : ℕ) : Type 0 where
  pub friction : List ℕ
  pub cells : length friction ≡ n
  pub dt : ℕ
  pub dry : ℕ
  pub left : ℕ
  pub right : ℕ

-- and all that is lent to it, with cells of length dx and a table of `room` numbers to write
abbrev pub lending : {n : ℕ} → List ℤ → ℕ → List ℤ → ℕ → Besides n → Lent
lending bed dx now room g = record {
  now = now;
  room = room;
  bed = bed;
  friction = g.friction;
  dx = dx;
  dt = g.dt;
  dry = g.dry;
  left = g.left;
  right = g.right;
}

-- one call: the answer and the table are the contract's
pub record Called (bed : List ℤ) (n dx : ℕ) (now : List ℤ) (a : Answer) (old new : List ℤ) : Type 0 where
  pub given : Besides n
  pub gave : Gives (step_of (lending bed dx now (length old) given)) a old new

-- what was lent to it
module _ {bed : List ℤ} {n dx : ℕ} {s : List ℤ} {a : Answer} {old m : List ℤ} (c : Called bed n dx s a old m) where
  abbrev pub lent : Lent
  lent = lending bed dx s (length old) c.given

-- an accepted one, with the volumes w and v
pub record AcceptedCall (bed : List ℤ) (n dx : ℕ) (now new : List ℤ) (w v : ℤ) : Type 0 where
  pub says : Answer
  pub old : List ℤ
  pub call : Called bed n dx now says old new
  pub crossed : volumes says ≡ both w v

-- any number of them, each lent what the one before wrote, with the sums of V at face 0 and at face n
abbrev pub Calls : List ℤ → ℕ → ℕ → List ℤ → List ℤ → ℤ → ℤ → Type 0
Calls bed n dx = Chain (AcceptedCall bed n dx)

-- ---- calls from C
-- one call of `bassoonsun_sill_step`: r is the number that it gives; vs and ps are the two volumes and the place before it, vs' and ps'
-- after it
pub record CalledFromC (bed : List ℤ) (n dx : ℕ) (now : List ℤ) (r : ℕ) (old new vs vs' : List ℤ) (ps ps' : List ℕ) : Type 0 where
  pub given : Besides n
  pub told : StepTold (step_of (lending bed dx now (length old) given)) r old new vs vs' ps ps'

-- one that gave 0 and left w and v in the two volumes
pub record AcceptedFromC (bed : List ℤ) (n dx : ℕ) (now new : List ℤ) (w v : ℤ) : Type 0 where
  pub old : List ℤ
  pub vs : List ℤ
  pub vs' : List ℤ
  pub ps : List ℕ
  pub ps' : List ℕ
  pub two : length vs ≡ 2
  pub call : CalledFromC bed n dx now 0 old new vs vs' ps ps'
  pub left : at vs' 0 ≡ w
  pub right : at vs' 1 ≡ v

-- any number of them, each lent what the one before wrote, with the sums of these
abbrev pub CallsFromC : List ℤ → ℕ → ℕ → List ℤ → List ℤ → ℤ → ℤ → Type 0
CallsFromC bed n dx = Chain (AcceptedFromC bed n dx)
