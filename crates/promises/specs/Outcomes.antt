-- What an accepted call is to the rules: its number, its volumes and its table, and the step that it makes.
-- Assumes nothing.
use Rattle.std.specs.Prelude.{◌≡◌, List, length, get_or, ℤ}
use Prim.Native.Nat.{ℕ, ◌*◌, ◌<◌}
use Rattle.std.proofs.Math.IntN.{pos}
use Rattle.tables.specs.Cells.{cell_in}
use Rattle.rules.specs.Face.{face}
use Rattle.rules.specs.Reach.{Reach, Call}
use Rattle.rules.specs.Step.{carry, next}
use Rattle.rules.specs.Refusals.{refusal}
use Rattle.rules.specs.Lent.{Lent, cells_of, number, filled, crossed}
use Rattle.rules.specs.Laws.Agree.{Same}
use Rattle.rules.specs.Laws.Rest as rest-words

-- an accepted call: its number, its volumes and its table
pub record Taken (l : Lent) (w v : ℤ) (new : List ℤ) : Type 0 where
  pub number : number l ≡ 0
  pub left : w ≡ crossed l 0
  pub right : v ≡ crossed l (cells_of l)
  pub table : new ≡ filled l

-- ---- tables as states
abbrev pub reach_at : List ℤ → ℕ → ℕ → Reach
reach_at bed n dx = record { n = n; dx = pos dx; bed = λ i. get_or bed i (pos 0); face = face }

-- ---- an accepted call as a step of the rules
pub record One (bed : List ℤ) (n dx : ℕ) (c : Call) (s m : List ℤ) (w v : ℤ) : Type 0 where
  pub some : 0 < n
  pub now : length s ≡ 4 * n
  pub size : length m ≡ 4 * n
  pub unstopped : refusal (reach_at bed n dx) c (cell_in n s) ≡ 0
  pub same : Same (reach_at bed n dx) (cell_in n m) (next (reach_at bed n dx) c (cell_in n s))
  pub left : w ≡ carry (reach_at bed n dx) c (cell_in n s) 0
  pub right : v ≡ carry (reach_at bed n dx) c (cell_in n s) n

-- ---- calls as a chain of steps, and of steps that bring no water in
module _ (bed : List ℤ) (n dx : ℕ) where
  abbrev pub AStep : List ℤ → List ℤ → ℤ → ℤ → Type 0
  AStep s m w v = (c : Call) × One bed n dx c s m w v

  abbrev pub ShutStep : List ℤ → List ℤ → ℤ → ℤ → Type 0
  ShutStep s m w v = (c : Call) × (rest-words.NoInflow c) × One bed n dx c s m w v
