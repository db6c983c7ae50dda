-- A number of the cell into each column, at the place that is the cell's there.
use Rattle.stage.proofs.store.put_cell.Goals as goal

pub returns : goal.returns
returns c = cc
