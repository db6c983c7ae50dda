use Rattle.std.proofs.Common.{[], ℕ, ℤ}
use Rattle.tables.specs.Rows.{Filled}
use Rattle.finishing.specs.FinishedCell.{finished_cell}
use Rattle.finishing.proofs.unfinished.UnfinishedTable.fill.Given as goal

abbrev pub invariant-loop-i : goal.invariant-loop-i
invariant-loop-i l = (ρ : ℕ → ℤ) → let u = l.self in
    Filled [] l.initial.t l.t l.i (finished_cell u.reach u.call u.bed.now u.cells.now ρ)
