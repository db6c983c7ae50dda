use Rattle.std.proofs.Common.{◌∙◌, sym}
use Rattle.finishing.specs.Laws.Ends.{marked_first, marked_next}
use Rattle.finishing.proofs.unfinished.UnfinishedTable.marked.Goals as goal

pub returns-then-i-eq0 : goal.returns-then-i-eq0
returns-then-i-eq0 c = λ ρ. c.parted.ensures ρ ∙ sym (marked_first _ _ _ c.args.i c.if-i-eq0.true)

pub returns-then-parted : goal.returns-then-parted
returns-then-parted c = λ ρ.
    rw (marked_next _ _ _ c.args.i c.if-i-eq0.false, sym (c.parted-2.ensures ρ) ∙ c.if-parted.true) c.if-parted.true

pub returns-else-parted : goal.returns-else-parted
returns-else-parted c = λ ρ.
    rw (marked_next _ _ _ c.args.i c.if-i-eq0.false, sym (c.parted-2.ensures ρ) ∙ c.if-parted.false) (c.parted-else-parted.ensures ρ)
