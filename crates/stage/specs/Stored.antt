-- A table of cells whose numbers fit the lent i32 table.
use Rattle.std.specs.Prelude.{ℕ, ◌<◌}
use Rattle.tables.specs.Cells.{Cell}
use Rattle.rules.specs.Limits.{fullest}
use Rattle.reach.specs.Ranges.{UpTo}
use Rattle.stage.specs.Ranges.{highest_level}

-- a cell in range, of any bed
pub record Fits (x : Cell) : Type 0 where
  pub e0 : UpTo highest_level x.e0
  pub e1 : UpTo highest_level x.e1
  pub q0 : UpTo fullest x.q0
  pub q1 : UpTo fullest x.q1

abbrev pub AllFit : ℕ → (ℕ → Cell) → Type 0
AllFit n s = (i : ℕ) → i < n → Fits (s i)
