-- An unfinished table, as the rules see it.
use Rattle.std.specs.Prelude.{ℕ, ℤ}
use Rattle.tables.specs.Cells.{seen}
use Rattle.rules.specs.Reach.{Reach, Call, State}
use Rattle.reach.specs.Told.{reach_in, call_on}
use Rattle.finishing.specs.declared.unfinished.UnfinishedTable.{UnfinishedTable}
use Rattle.finishing.specs.InTable.{InReach}

abbrev pub reach_of : UnfinishedTable → Reach
reach_of t = reach_in t.reach t.bed.now

abbrev pub state_of : UnfinishedTable → State
state_of t = seen t.cells.now

-- no rule of finishing reads the friction, so what is said holds for any
abbrev pub call_of : UnfinishedTable → (ℕ → ℤ) → Call
call_of t ρ = call_on t.call ρ

-- cell i is one of it, and all are small enough to be worked on
abbrev pub HasCell : UnfinishedTable → ℕ → Type 0
HasCell t i = InReach t.reach.n t.bed.now t.cells.now i
