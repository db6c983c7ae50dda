-- To be believed. What the public function says.
use Rattle.std.specs.Prelude.{◌≡◌, not, List, [], ℕ, length, ℤ, Result, is_ok, IsOk, IsErr}
use Rattle.tables.specs.Rows.{Filled}
use Rattle.reach.specs.declared.Reach.{Reach}
use Rattle.reach.specs.declared.Call.{Call}
use Rattle.finishing.specs.declared.unfit.Unfit.{Unfit}
use Rattle.finishing.specs.Unfit.{unfit}
use Rattle.finishing.specs.FinishedCell.{finished_cell}

-- the finished cells in the first n places of the table, at every friction ρ; or, where it cannot be worked, the table as it was
pub record FinishSays (reach : Reach) (call : Call) (bed : List ℤ) (u : List (List ℤ))
    (told : Result Unit Unfit) (old new : List (List ℤ)) : Type 0 where
  pub works : is_ok told ≡ not (unfit reach call bed u (length old))
  pub filled : IsOk told → (ρ : ℕ → ℤ) → Filled [] old new reach.n (finished_cell reach call bed u ρ)
  pub kept : IsErr told → new ≡ old
