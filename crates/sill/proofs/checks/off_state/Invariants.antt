-- Below i every cell is in range.
use Rattle.std.proofs.Common.{Bool, List, get_or, ℕ, ℤ, pos}
use Rattle.tables.proofs.Scan.{Scanned}
use Rattle.tables.specs.Pools.{pool_in}
use Rattle.sill_rules.specs.Refusals.{off_pool}
use Rattle.sill.proofs.checks.off_state.Given as goal

abbrev pub bad : List ℤ → List ℤ → ℕ → ℕ → Bool
bad state bed n k = off_pool (get_or bed k (pos 0)) (pool_in n state k)

abbrev pub invariant-loop-i : goal.invariant-loop-i
invariant-loop-i l = Scanned (bad l.state l.bed l.n) l.n l.i
