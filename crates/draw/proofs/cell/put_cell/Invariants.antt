-- With the numbers that are left the cell is put.
use Rattle.std.proofs.Common.{◌≡◌}
use Rattle.std.specs.Prelude.{fold}
use Rattle.std.specs.List.{enumerate_from}
use Rattle.std.specs.Array.Iter.{array_into_iter_items}
use Rattle.draw.specs.Cell.{put_number, put_cell}
use Rattle.draw.proofs.cell.put_cell.Given as goal

abbrev pub invariant-loop-column : goal.invariant-loop-column
invariant-loop-column l =
    fold (put_number l.n l.i) l.state (enumerate_from l.column-iterator.count (array_into_iter_items l.column-iterator.iter))
    ≡ put_cell l.fn.state l.n l.i l.fn.cell
