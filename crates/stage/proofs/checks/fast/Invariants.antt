-- Below i no cell is too fast.
use Rattle.std.proofs.Common.{Bool, List, ℕ, ℤ}
use Rattle.tables.proofs.Scan.{Scanned}
use Rattle.tables.specs.Cells.{seen}
use Rattle.rules.specs.Refusals.{fast_cell}
use Rattle.rules.specs.Reach.{bed_at}
use Rattle.stage.proofs.checks.fast.Given as goal

abbrev pub bad : ℤ → List (List ℤ) → List ℤ → ℕ → Bool
bad dry t bed k = fast_cell dry (bed_at bed k) (seen t k)

abbrev pub invariant-loop-i : goal.invariant-loop-i
invariant-loop-i l = Scanned (bad l.course.call.dry l.t l.course.bed.now) l.course.reach.n l.i
