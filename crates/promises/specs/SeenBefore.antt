-- To be believed. What `Changed` speaks of besides: the states that a call's two stages started from before E6, when it was lent cells.
use Rattle.std.specs.Prelude.{◌≡◌, List, ℕ, ◌<◌, ℤ, pos}
use Rattle.tables.specs.Cells.{table_of}
use Rattle.rules.specs.Step.{rubbed}
use Rattle.rules.specs.Lent.{Lent, cells_of, reach_of, call_of}
use Rattle.before.specs.E6 as before-E6
use Rattle.before.specs.E7 as before-E7
use Rattle.promises.specs.Seen.{left_depth, right_depth}

-- that after friction, which E6 left alone, and the finished stage one
unfoldable pub friction_table : Lent → List ℤ
friction_table l = table_of (cells_of l) (rubbed (reach_of l) (call_of l) (before-E7.state_of l))

unfoldable pub corrected_stage_table : Lent → List ℤ
corrected_stage_table l = table_of (cells_of l) (before-E6.stage_one l)

-- at no face does a level fall short of the bed
pub record NoShortfall (bed t : List ℤ) (n : ℕ) : Type 0 where
  pub left : (i : ℕ) → i < n → before-E6.short (left_depth bed t n i) ≡ pos 0
  pub right : (i : ℕ) → i < n → before-E6.short (right_depth bed t n i) ≡ pos 0
