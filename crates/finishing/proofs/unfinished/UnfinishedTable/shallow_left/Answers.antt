use Rattle.std.proofs.Common.{◌∙◌, sym, arith}
use Rattle.finishing.specs.Laws.Ends.{shallow_first, shallow_next}
use Rattle.finishing.proofs.unfinished.UnfinishedTable.shallow_left.Goals as goal

pub returns-then-i-ne0 : goal.returns-then-i-ne0
returns-then-i-ne0 c = c.shallow_at.ensures ∙ sym (shallow_next _ _ _ c.args.i c.if-i-ne0.true)

pub returns-else-i-ne0 : goal.returns-else-i-ne0
returns-else-i-ne0 c = rw (shallow_first _ _ _ c.args.i c.if-i-ne0.false) (grind arith)
