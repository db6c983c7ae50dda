-- The cut of the two faces, with or without a block that lies whole.
use Rattle.rules.proofs.Laws.Blocks.{cut_some, cut_none}
use Rattle.sums.proofs.splitting.split_between.Goals as goal

pub returns-then-first-last : goal.returns-then-first-last
returns-then-first-last c =
    let p = c.args in let first = c.blocks-first.ensures in
    rw (c.block_to.ensures, first)
    (cut_some p.n p.a p.b _ c.requires.0 c.requires.1 c.ended-last.ensures (rw first at c.if-first-last.true))

pub returns : goal.returns
returns c =
    let p = c.args in let first = c.blocks-first.ensures in
    rw first (cut_none p.n p.a p.b _ c.requires.0 c.requires.1 c.ended-last.ensures (rw first at c.if-first-last.false))
