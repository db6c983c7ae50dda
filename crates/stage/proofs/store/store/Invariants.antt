use mathlib.Core.Path.{◌≡◌}
use Prim.Native.Nat.{◌*◌}
use lib.ListN.{length}
use Rattle.tables.specs.Columns.{Stores}
use Rattle.tables.specs.Cells.{seen, columns_of}
use Rattle.stage.proofs.store.store.Given as goal

abbrev pub invariant-loop-i : goal.invariant-loop-i
invariant-loop-i l = (length l.next ≡ 4 * l.n) × Stores l.n (columns_of (seen l.y)) l.next l.i
