-- Below i no cell is too fast for friction, and each cell's row is the rule's.
use Rattle.std.proofs.Common.{◌≡◌, Bool, List, get_or, length, ℕ, ℤ, pos}
use Rattle.tables.proofs.Scan.{Scanned}
use Rattle.tables.specs.Rows.{Written}
use Rattle.tables.specs.Pools.{pool_in}
use Rattle.sill_rules.specs.Step.{rubbed}
use Rattle.sill_rules.specs.Refusals.{fast_friction}
use Rattle.sill.specs.declared.rows.Call.{Call}
use Rattle.sill.specs.declared.rows.Row.{Row}
use Rattle.sill.specs.Told.{reach_in, call_in}
use Rattle.sill.specs.Rows.{no_row, row_at}
use Rattle.sill.proofs.rubbing.rub.Given as goal

abbrev pub fast : List ℤ → List ℤ → List ℕ → Call → ℕ → Bool
fast state bed friction call = fast_friction (reach_in call bed) (call_in call (λ i. pos (get_or friction i 0))) (pool_in call.n state)

abbrev pub row : List ℤ → List ℤ → List ℕ → Call → ℕ → Row
row state bed friction call = let r = reach_in call bed in
    row_at r call.dry (rubbed r (call_in call (λ i. pos (get_or friction i 0))) (pool_in call.n state))

abbrev pub invariant-loop-i : goal.invariant-loop-i
invariant-loop-i l =
    Scanned (fast l.state l.bed l.friction l.call) l.call.n l.i × (length l.b ≡ length l.initial.b)
    × Written no_row l.b l.i (row l.state l.bed l.friction l.call)
