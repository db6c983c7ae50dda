-- To be believed. What a caller sees: the depths and the water of the lent tables, and calls one after another.
use Rattle.std.specs.Prelude.{◌≡◌, true, false, List, ◌∷◌, ◌++◌, reverse, ◌⊎◌, ℕ, zero, suc, ◌≤◌, ◌<◌, length, get_or, ℤ, pos, negsuc, neg_ℤ, ◌+ℤ◌, ◌-ℤ◌, ◌*ℤ◌, ◌≤ℤ◌, ◌<ℤ◌}
use Rattle.std.specs.Int.Signed.{quot_z}
use Rattle.whole.specs.Choice.{size_z}
use Rattle.tables.specs.Some.{IsLowest}
use Rattle.tables.specs.Columns.{in_column}
use Rattle.tables.specs.Cells.{table_of}
use Rattle.rules.specs.Limits.{deepest, fullest, largest_inflow}
use Rattle.rules.specs.Ends.{End, inflow_kind}
use Rattle.rules.specs.Step.{stage_one}
use Rattle.rules.specs.Refusals.{Check, each, of_call, applies, off, stage_checks, early, checks}
use Rattle.rules.specs.Lent.{Lent, cells_of, reach_of, call_of, state_of, misfits, step_of}
use Rattle.survey.specs.Turned.{turned_table, turned_call}
use Rattle.step.specs.Gives.{Answer, lend, volumes, both, Gives}
use Rattle.editor.specs.Told.{StepTold}

-- entry j of a table
abbrev pub at : List ℤ → ℕ → ℤ
at t j = get_or t j (pos 0)

-- ---- the checks of a call
-- all of them, in their order
unfoldable pub all_checks : Lent → List Check
all_checks l = of_call 1 (misfits l) ∷ checks (reach_of l) (call_of l) (state_of l)

-- those that it has passed when its stage one is finished, and when its end state is: that stage, or the end, is reached where none of them
-- is met
unfoldable pub to_stage_one : Lent → List Check
to_stage_one l = of_call 1 (misfits l) ∷ early (reach_of l) (call_of l) (state_of l)

unfoldable pub to_end : Lent → List Check
to_end l = let r = reach_of l in let c = call_of l in let one = stage_one r c (state_of l) in
    to_stage_one l ++ each 8 (cells_of l) (off r one) ∷ stage_checks r c one

-- check 5: the present state is not in range
abbrev pub check_five : Lent → Check
check_five l = each 5 (cells_of l) (off (reach_of l) (state_of l))

-- a check with the number k applies, and none before it
pub data FirstMet (k : ℕ) : List Check → Type 0 where
  here : (x : Check) (xs : List Check) → applies x ≡ true → x.no ≡ k → FirstMet k (x ∷ xs)
  later : (x : Check) (xs : List Check) → applies x ≡ false → FirstMet k xs → FirstMet k (x ∷ xs)

-- and with its place: it applies there, and at no lower one
pub data FirstMetAt (k p : ℕ) : List Check → Type 0 where
  here_at : (x : Check) (xs : List Check) → IsLowest x.at x.many p → x.no ≡ k → FirstMetAt k p (x ∷ xs)
  later_at : (x : Check) (xs : List Check) → applies x ≡ false → FirstMetAt k p xs → FirstMetAt k p (x ∷ xs)

-- ---- cell i of a state of n cells: its table has a column each of level means, level slopes, discharge means and discharge slopes
abbrev pub level : List ℤ → ℕ → ℕ → ℤ
level t n i = in_column n t 0 i

abbrev pub level_slope : List ℤ → ℕ → ℕ → ℤ
level_slope t n i = in_column n t 1 i

abbrev pub discharge : List ℤ → ℕ → ℕ → ℤ
discharge t n i = in_column n t 2 i

abbrev pub discharge_slope : List ℤ → ℕ → ℕ → ℤ
discharge_slope t n i = in_column n t 3 i

-- its depths over the bed
unfoldable pub mean_bed : List ℤ → ℕ → ℤ
mean_bed bed i = quot_z (at bed i +ℤ at bed (suc i)) (pos 2)

unfoldable pub bed_slope : List ℤ → ℕ → ℤ
bed_slope bed i = quot_z (at bed (suc i) -ℤ at bed i) (pos 2)

unfoldable pub mean_depth : List ℤ → List ℤ → ℕ → ℕ → ℤ
mean_depth bed t n i = level t n i -ℤ mean_bed bed i

unfoldable pub left_depth : List ℤ → List ℤ → ℕ → ℕ → ℤ
left_depth bed t n i = mean_depth bed t n i -ℤ (level_slope t n i -ℤ bed_slope bed i)

unfoldable pub right_depth : List ℤ → List ℤ → ℕ → ℕ → ℤ
right_depth bed t n i = mean_depth bed t n i +ℤ (level_slope t n i -ℤ bed_slope bed i)

-- no depth, mean or face, is below nought
pub record NoneBelow (bed t : List ℤ) (n : ℕ) : Type 0 where
  pub mean : (i : ℕ) → i < n → pos 0 ≤ℤ mean_depth bed t n i
  pub left : (i : ℕ) → i < n → pos 0 ≤ℤ left_depth bed t n i
  pub right : (i : ℕ) → i < n → pos 0 ≤ℤ right_depth bed t n i

-- some value is too large: a depth at a face is over 262,144, or a discharge there over 8,388,608 either way
pub record Excess (bed t : List ℤ) (n : ℕ) : Type 0 where
  pub cell : ℕ
  pub below : cell < n
  pub large : (deepest <ℤ left_depth bed t n cell)
      ⊎ ((deepest <ℤ right_depth bed t n cell)
      ⊎ ((fullest <ℤ size_z (discharge t n cell -ℤ discharge_slope t n cell))
      ⊎ (fullest <ℤ size_z (discharge t n cell +ℤ discharge_slope t n cell))))

-- the finished stage one of a call, written as a table
unfoldable pub stage_table : Lent → List ℤ
stage_table l = table_of (cells_of l) (stage_one (reach_of l) (call_of l) (state_of l))

-- the water: the sum of the mean depths
unfoldable pub total : (ℕ → ℤ) → ℕ → ℤ
total f zero = pos 0
total f (suc k) = total f k +ℤ f k

unfoldable pub water : List ℤ → List ℤ → ℕ → ℤ
water bed t n = total (mean_depth bed t n) n

-- ---- an end: its kind and its Q in their lists, and Q nought at an end of another kind than an inflow
pub record Listed (e : End) : Type 0 where
  pub kind : e.kind ≤ inflow_kind
  pub q : e.q ≤ largest_inflow
  pub other : (e.kind ≡ inflow_kind → ⊥) → e.q ≡ 0

-- the most that passes an end of another kind in a step, either way: half of the greatest depth
abbrev pub most_passed : ℤ
most_passed = pos 131072

-- what an inflow brings in over a step: Q·dt/dx, cut toward nought
unfoldable pub brought : Lent → End → ℤ
brought l e = quot_z (pos e.q *ℤ pos l.dt) (pos l.dx)

-- ---- a lake at rest: no discharge; each cell dry, or flat with its level at least both its face beds; one level at each inner face
pub record Lake (bed t : List ℤ) (n : ℕ) : Type 0 where
  pub mean : (i : ℕ) → i < n → discharge t n i ≡ pos 0
  pub slope : (i : ℕ) → i < n → discharge_slope t n i ≡ pos 0
  pub cell : (i : ℕ) → i < n
      → ((level t n i ≡ mean_bed bed i) × (level_slope t n i ≡ bed_slope bed i))
      ⊎ ((level_slope t n i ≡ pos 0) × (at bed i ≤ℤ level t n i) × (at bed (suc i) ≤ℤ level t n i))
  pub meet : (i : ℕ) → suc i < n → (level t n i +ℤ level_slope t n i) ≡ (level t n (suc i) -ℤ level_slope t n (suc i))

-- ---- calls
-- what a call on a bed with n cells is given besides: friction, a time step, a jump, a dry depth and ends of its own
pub record Besides (n : ℕ) : Type 0 where
  pub friction : List ℕ
  pub cells : length friction ≡ n
  pub dt : ℕ
  pub jump : ℕ
  pub dry : ℕ
  pub left : End
  pub right : End

-- and all that is lent to it, with cells of length dx and a table of `room` numbers to write
abbrev pub lending : {n : ℕ} → List ℤ → ℕ → List ℤ → ℕ → Besides n → Lent
lending bed dx now room g = lend now room bed g.friction dx g.dt g.jump g.dry g.left g.right

-- one call: the answer and the table are the contract's
pub record Called (bed : List ℤ) (n dx : ℕ) (now : List ℤ) (a : Answer) (old new : List ℤ) : Type 0 where
  pub given : Besides n
  pub gave : Gives (step_of (lending bed dx now (length old) given)) a old new

-- what was lent to it
module _ {bed : List ℤ} {n dx : ℕ} {s : List ℤ} {a : Answer} {old m : List ℤ} (c : Called bed n dx s a old m) where
  abbrev pub lent : Lent
  lent = lending bed dx s (length old) c.given

-- any number of accepted calls, each lent what the one before wrote; w and v are the volumes of an accepted one, a and b the sums of W at
-- face 0 and at face n
pub data Calls (bed : List ℤ) (n dx : ℕ) : List ℤ → List ℤ → ℤ → ℤ → Type 0 where
  none : (t : List ℤ) → Calls bed n dx t t (pos 0) (pos 0)
  more : (s m t old : List ℤ) (x : Answer) (w v a b : ℤ) → volumes x ≡ both w v → Called bed n dx s x old m → Calls bed n dx m t a b
      → Calls bed n dx s t (w +ℤ a) (v +ℤ b)

-- none of them brings water in: Q is nought at both ends of each
abbrev pub NoInflow : {bed : List ℤ} {n dx : ℕ} {s t : List ℤ} {a b : ℤ} → Calls bed n dx s t a b → Type 0
NoInflow (none t) = Unit {0}
NoInflow (more s m t old x w v a b e c k) = (c.given.left.q ≡ 0) × (c.given.right.q ≡ 0) × NoInflow k

-- ---- calls from C
-- one call of `bassoonsun_step`: r is the number that it gives; vs and ps are the two volumes and the place before it, vs' and ps' after it
pub record CalledFromC (bed : List ℤ) (n dx : ℕ) (now : List ℤ) (r : ℕ) (old new vs vs' : List ℤ) (ps ps' : List ℕ) : Type 0 where
  pub given : Besides n
  pub told : StepTold (step_of (lending bed dx now (length old) given)) r old new vs vs' ps ps'

-- any number of them that gave 0, each lent what the one before wrote; a and b are the sums of what they left in the two volumes
pub data CallsFromC (bed : List ℤ) (n dx : ℕ) : List ℤ → List ℤ → ℤ → ℤ → Type 0 where
  none_c : (t : List ℤ) → CallsFromC bed n dx t t (pos 0) (pos 0)
  more_c : (s m t old vs vs' : List ℤ) (ps ps' : List ℕ) (a b : ℤ) → length vs ≡ 2 → CalledFromC bed n dx s 0 old m vs vs' ps ps'
      → CallsFromC bed n dx m t a b → CallsFromC bed n dx s t (at vs' 0 +ℤ a) (at vs' 1 +ℤ b)

abbrev pub NoneComesIn : {bed : List ℤ} {n dx : ℕ} {s t : List ℤ} {a b : ℤ} → CallsFromC bed n dx s t a b → Type 0
NoneComesIn (none_c t) = Unit {0}
NoneComesIn (more_c s m t old vs vs' ps ps' a b l c k) = (c.given.left.q ≡ 0) × (c.given.right.q ≡ 0) × NoneComesIn k

-- ---- the other end
-- every number of a table is an i32; and no level slope or discharge mean is the least of these, the only one whose opposite is none
abbrev pub least_i32 : ℤ
least_i32 = negsuc 2147483647

abbrev pub FitsI32 : List ℤ → Type 0
FitsI32 t = (j : ℕ) → j < length t → (least_i32 ≤ℤ at t j) × (at t j ≤ℤ pos 2147483647)

abbrev pub NoneLeast : List ℤ → ℕ → Type 0
NoneLeast t n = (i : ℕ) → i < n → (level_slope t n i ≡ least_i32 → ⊥) × (discharge t n i ≡ least_i32 → ⊥)

-- as many calls as others, and each of them the turned one
abbrev pub EachTurned : {bed bed' : List ℤ} {n dx : ℕ} {s t s' t' : List ℤ} {a b a' b' : ℤ}
    → Calls bed n dx s t a b → Calls bed' n dx s' t' a' b' → Type 0
EachTurned (none t) (none t') = Unit {0}
EachTurned (none t) (more s' m' t' old' x' w' v' a' b' e' c' k') = ⊥
EachTurned (more s m t old x w v a b e c k) (none t') = ⊥
EachTurned (more s m t old x w v a b e c k) (more s' m' t' old' x' w' v' a' b' e' c' k') =
    (lent c' ≡ turned_call (lent c)) × EachTurned k k'

-- those calls are accepted too: they lead from the turned table to the turned table, and what crosses either end is what crossed the other,
-- with its sign changed
pub record FromOtherEnd {bed : List ℤ} {n dx : ℕ} {s t : List ℤ} {a b : ℤ} (k : Calls bed n dx s t a b) : Type 0 where
  pub left : ℤ
  pub right : ℤ
  pub calls : Calls (reverse bed) n dx (turned_table n s) (turned_table n t) left right
  pub each : EachTurned k calls
  pub left_is : left ≡ neg_ℤ b
  pub right_is : right ≡ neg_ℤ a
