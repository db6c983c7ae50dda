-- What an accepted call over a stepped bed is to its rules: the step that it makes.
-- Assumes nothing.
use Rattle.std.specs.Prelude.{◌≡◌, get_or, ℤ, pos}
use mathlib.Core.List.{List}
use Prim.Native.Nat.{ℕ, ◌*◌, ◌<◌}
use Rattle.std.proofs.Math.ListN.{length}
use Rattle.tables.specs.Pools.{pool_in}
use Rattle.rules.specs.Face.{face}
use Rattle.sill_rules.specs.Reach.{Reach, Call}
use Rattle.sill_rules.specs.Step.{next, carry}
use Rattle.sill_rules.specs.Refusals.{refusal}
use Rattle.sill_rules.proofs.Laws.Agree.{Same}

-- ---- tables as states
abbrev pub reach_at : List ℤ → ℕ → ℕ → Reach
reach_at bed n dx = record { n = n; dx = pos dx; bed = λ i. get_or bed i (pos 0); face = face }

-- ---- an accepted call as a step of the rules
pub record One (bed : List ℤ) (n dx : ℕ) (c : Call) (s m : List ℤ) (w v : ℤ) : Type 0 where
  pub some : 0 < n
  pub now : length s ≡ 2 * n
  pub size : length m ≡ 2 * n
  pub unstopped : refusal (reach_at bed n dx) c (pool_in n s) ≡ 0
  pub same : Same (reach_at bed n dx) (pool_in n m) (next (reach_at bed n dx) c (pool_in n s))
  pub left : w ≡ carry (reach_at bed n dx) c (pool_in n s) 0
  pub right : v ≡ carry (reach_at bed n dx) c (pool_in n s) n
