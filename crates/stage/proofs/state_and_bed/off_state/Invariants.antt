-- Below i every cell is in range.
use Rattle.std.proofs.Common.{Bool, List, ℕ, ℤ}
use Rattle.tables.proofs.Scan.{Scanned}
use Rattle.tables.specs.Cells.{cell_in}
use Rattle.rules.specs.Refusals.{off_cell}
use Rattle.rules.specs.Reach.{bed_at}
use Rattle.stage.proofs.state_and_bed.off_state.Given as goal

abbrev pub bad : ℕ → List ℤ → List ℤ → ℕ → Bool
bad n state bed k = off_cell (bed_at bed k) (cell_in n state k)

abbrev pub invariant-loop-i : goal.invariant-loop-i
invariant-loop-i l = Scanned (bad l.n l.state l.bed) l.n l.i
