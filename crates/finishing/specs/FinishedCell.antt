-- To be believed. A finished cell, as the code holds it.
use Rattle.std.specs.Prelude.{List, ℕ, ℤ}
use Rattle.tables.specs.Cells.{as_list, seen}
use Rattle.rules.specs.Finishing.{finish}
use Rattle.reach.specs.declared.Reach.{Reach}
use Rattle.reach.specs.declared.Call.{Call}
use Rattle.reach.specs.Told.{reach_in, call_on}

-- cell i of the unfinished table u over the bed, by the rules; the friction ρ of the call is any, as finishing does not read it
abbrev pub finished_cell : Reach → Call → List ℤ → List (List ℤ) → (ℕ → ℤ) → ℕ → List ℤ
finished_cell reach call bed u ρ i = as_list (finish (reach_in reach bed) (call_on call ρ) (seen u) i)
