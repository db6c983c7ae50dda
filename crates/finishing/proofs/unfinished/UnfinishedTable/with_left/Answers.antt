use Rattle.std.proofs.Common.{sym, ◌∙◌, arith}
use Rattle.std.proofs.lemmas.Int.{to_z-of_z}
use Rattle.std.specs.Int.{w64}
use Rattle.finishing.specs.NumberOf.{number_of}
use Rattle.finishing.specs.Laws.Ends.{left_first, left_next}
use Rattle.finishing.proofs.unfinished.UnfinishedTable.with_left.Goals as goal

pub returns-then-i-eq0 : goal.returns-then-i-eq0
returns-then-i-eq0 c = to_z-of_z w64 c.args.slope c.ranges.slope ∙ sym (left_first _ c.args.i c.args.slope c.if-i-eq0.true)

pub returns : goal.returns
returns c = rw (left_next (number_of c.args.self.cells.now c.args.m) c.args.i c.args.slope c.if-i-eq0.false) (grind (arith, to_z-of_z))
