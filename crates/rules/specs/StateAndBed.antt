-- To be believed. A state that is lent with its bed and without a call: its cells, and checks 1, 3 and 5 of it.
use Rattle.std.specs.Prelude.{Bool, not, List, [], ◌∷◌, ℕ, suc, ◌-◌, ◌*◌, eqb, ltb, length, get_or, ℤ, pos}
use Rattle.tables.specs.Cells.{cell_in}
use Rattle.rules.specs.Limits.{most_cells}
use Rattle.rules.specs.Reach.{bed_at, h0}
use Rattle.rules.specs.Refusals.{any, bad_bed, off_cell, Check, each, of_call, verdict}

-- there is a cell between every two values of the bed
abbrev pub cells_over : List ℤ → ℕ
cells_over bed = length bed - 1

-- the mean depth of cell i, on whatever the tables hold
abbrev pub depth_in : List ℤ → List ℤ → ℕ → ℤ
depth_in bed t i = h0 (bed_at bed i) (cell_in (cells_over bed) t i)

-- 1: there are 0 or over 1,024 cells, or the state is not 4n long
abbrev pub state_tests : ℕ → ℕ → List Bool
state_tests state n = eqb n 0 ∷ ltb most_cells n ∷ not (eqb state (4 * n)) ∷ []

unfoldable pub misfit_state : ℕ → ℕ → Bool
misfit_state state n = any (state_tests state n)

-- 1, then 3 and 5
unfoldable pub state_checks : List ℤ → List ℤ → List Check
state_checks bed t = let n = cells_over bed in
    of_call 1 (misfit_state (length t) n)
    ∷ each 3 (suc n) (λ i. bad_bed (get_or bed i (pos 0)))
    ∷ each 5 n (λ i. off_cell (bed_at bed i) (cell_in n t i))
    ∷ []

-- the number of the first that applies, or 0
unfoldable pub state_refusal : List ℤ → List ℤ → ℕ
state_refusal bed t = verdict (state_checks bed t)
