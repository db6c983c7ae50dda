-- Below i every cell is in range.
use Rattle.std.proofs.Common.{Bool, List, ℕ, ℤ}
use Rattle.tables.proofs.Scan.{Scanned}
use Rattle.tables.specs.Cells.{seen}
use Rattle.rules.specs.Refusals.{off_cell}
use Rattle.rules.specs.Reach.{bed_at}
use Rattle.stage.proofs.checks.off.Given as goal

abbrev pub bad : List (List ℤ) → List ℤ → ℕ → Bool
bad t bed k = off_cell (bed_at bed k) (seen t k)

abbrev pub invariant-loop-i : goal.invariant-loop-i
invariant-loop-i l = Scanned (bad l.t l.course.bed.now) l.course.reach.n l.i
