use Rattle.std.proofs.Common.{◌≡◌, length, arith}
use Rattle.std.proofs.lemmas.Int.{ints, to_z-of_z}
use Rattle.tables.proofs.Cells.{of_four}
use Rattle.rules.specs.Finishing.{dried}
use Rattle.finishing.proofs.cell.dried_cell.Goals as goal

pub returns-then-is_shallow : goal.returns-then-is_shallow
unfolding dried
returns-then-is_shallow c = grind (arith, ints, to_z-of_z)

pub returns : goal.returns
unfolding dried
returns c = let four : length c.args.x ≡ 4 = omega arith in grind (arith, ints, to_z-of_z, of_four c.args.x four)
