-- To be believed. The step over a stepped bed on the lent tables: refusal 1, and what a call answers and leaves in `next`.
use Rattle.std.specs.Prelude.{Bool, not, List, [], ◌∷◌, ℕ, ◌*◌, eqb, ltb, length, get_or, ℤ, pos}
use Rattle.tables.specs.Pools.{pool_in, pool_table}
use Rattle.rules.specs.Limits.{most_cells}
use Rattle.rules.specs.Face.{face}
use Rattle.rules.specs.Refusals.{any, Check, of_call}
use Rattle.rules.specs.Lent.{Outcome, outcome}
use Rattle.sill_rules.specs.Reach.{Reach, Call, State}
use Rattle.sill_rules.specs.Step.{next, carry}
use Rattle.sill_rules.specs.Refusals.{checks}

-- what is lent and given: `now` is a state in two columns, of `next` only its length is read
pub record Lent : Type 0 where
  pub now : List ℤ
  pub room : ℕ
  pub bed : List ℤ
  pub friction : List ℕ
  pub dx : ℕ
  pub dt : ℕ
  pub dry : ℕ
  pub left : ℕ
  pub right : ℕ

-- n is the friction table's length
abbrev pub cells_of : Lent → ℕ
cells_of a = length a.friction

abbrev pub reach_of : Lent → Reach
reach_of a = record { n = cells_of a; dx = pos a.dx; bed = λ i. get_or a.bed i (pos 0); face = face }

abbrev pub call_of : Lent → Call
call_of a = record { dt = pos a.dt; dry = pos a.dry; rough = λ i. pos (get_or a.friction i 0); left = a.left; right = a.right }

abbrev pub state_of : Lent → State
state_of a = pool_in (cells_of a) a.now

-- 1: friction has 0 or over 1,024 entries, or now or next is not 2n long, or bed not n
abbrev pub length_tests : ℕ → ℕ → ℕ → ℕ → List Bool
length_tests now room bed n =
    eqb n 0 ∷ ltb most_cells n ∷ not (eqb now (2 * n)) ∷ not (eqb room (2 * n)) ∷ not (eqb bed n) ∷ []

unfoldable pub misfit : ℕ → ℕ → ℕ → ℕ → Bool
misfit now room bed n = any (length_tests now room bed n)

abbrev pub misfits : Lent → Bool
misfits a = misfit (length a.now) a.room (length a.bed) (cells_of a)

-- every check of a call, in its order
unfoldable pub all_checks : Lent → List Check
all_checks a = of_call 1 (misfits a) ∷ checks (reach_of a) (call_of a) (state_of a)

-- the next table, and the volume V at face i
unfoldable pub filled : Lent → List ℤ
filled a = pool_table (cells_of a) (next (reach_of a) (call_of a) (state_of a))

unfoldable pub crossed : Lent → ℕ → ℤ
crossed a i = carry (reach_of a) (call_of a) (state_of a) i

-- what a call gives: a number with its place and an unchanged table, or the new table and V at face 0 and at face n
unfoldable pub step_of : Lent → Outcome
step_of a = outcome (all_checks a) (filled a) (crossed a 0) (crossed a (cells_of a))
