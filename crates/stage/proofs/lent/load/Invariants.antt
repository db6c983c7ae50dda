-- Below i the cells are those of the lent state, and as wide as its numbers.
use mathlib.Core.List.{[]}
use Rattle.tables.specs.Rows.{Filled}
use Rattle.tables.specs.Cells.{as_list, cell_in}
use Rattle.reach.specs.Ranges.{Wides}
use Rattle.stage.proofs.lent.load.Given as goal

abbrev pub invariant-loop-i : goal.invariant-loop-i
invariant-loop-i l = Filled [] l.initial.t l.t l.i (λ k. as_list (cell_in l.n l.state k)) × Wides l.i (cell_in l.n l.state)
