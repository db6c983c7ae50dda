-- Below i the table has the cells in its columns.
use Rattle.std.proofs.Common.{◌≡◌, ◌*◌, length}
use Rattle.tables.specs.Columns.{Stores}
use Rattle.tables.specs.Pools.{pools_seen, pool_columns}
use Rattle.sill.proofs.store.store.Given as goal

abbrev pub invariant-loop-i : goal.invariant-loop-i
invariant-loop-i l = (length l.next ≡ 2 * l.n) × Stores l.n (pool_columns (pools_seen l.y)) l.next l.i
