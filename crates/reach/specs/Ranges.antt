-- To be believed: `widest` and `UpTo`.
-- How large the numbers of a call, a bed and a cell in work may be.
use Rattle.std.specs.Prelude.{List, ℕ, ◌≤◌, ◌<◌, ℤ, pos, nat_abs, ◌≤ℤ◌, ◌<ℤ◌}
use Rattle.whole.specs.Parts.{Within}
use Rattle.tables.specs.Cells.{Cell}
use Rattle.rules.specs.Limits.{highest_bed, longest_cell, longest_step, largest_jump, least_dry, most_dry, largest_inflow}
use Rattle.rules.specs.Reach.{State, Bed, bed_at}
use Rattle.reach.specs.declared.Reach.{Reach}
use Rattle.reach.specs.declared.Call.{Call}

-- no further from nought than a limit, which is one of the rules'
abbrev pub UpTo : ℤ → ℤ → Type 0
UpTo most x = Within (nat_abs most) x

-- 2^46: no stage leaves a larger number, and sums of a few of them fit 64 bits with much to spare
abbrev pub widest : ℤ
widest = pos 70368744177664

-- a dry depth in its list
pub record DryDepth (d : ℤ) : Type 0 where
  pub least : least_dry ≤ℤ d
  pub most : d ≤ℤ most_dry

-- the numbers of a call that passed check 2
pub record Numbers (r : Reach) (c : Call) : Type 0 where
  pub dx_pos : pos 0 <ℤ r.dx
  pub dx_in : UpTo longest_cell r.dx
  pub dt_pos : pos 0 ≤ℤ c.dt
  pub dt_in : UpTo longest_step c.dt
  pub jump_pos : pos 0 ≤ℤ c.jump
  pub jump_in : UpTo largest_jump c.jump
  pub dry : DryDepth c.dry
  pub left_q : c.left.q ≤ largest_inflow
  pub right_q : c.right.q ≤ largest_inflow

-- a bed that passed check 3, and the beds of n cells
pub record Ground (b : Bed) : Type 0 where
  pub zl : UpTo highest_bed b.zl
  pub zr : UpTo highest_bed b.zr

abbrev pub Grounds : List ℤ → ℕ → Type 0
Grounds bed n = (i : ℕ) → i < n → Ground (bed_at bed i)

-- a cell as no stage can leave it larger, and the cells of a table
pub record Wide (x : Cell) : Type 0 where
  pub e0 : UpTo widest x.e0
  pub e1 : UpTo widest x.e1
  pub q0 : UpTo widest x.q0
  pub q1 : UpTo widest x.q1

abbrev pub Wides : ℕ → State → Type 0
Wides n s = (i : ℕ) → i < n → Wide (s i)

-- an unfinished cell over its bed, and an unfinished state of n cells
pub record Unfinished (b : Bed) (x : Cell) : Type 0 where
  pub grounded : Ground b
  pub wide : Wide x

abbrev pub AllUnfinished : List ℤ → ℕ → State → Type 0
AllUnfinished bed n s = (i : ℕ) → i < n → Unfinished (bed_at bed i) (s i)
