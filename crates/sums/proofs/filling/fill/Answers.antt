use Rattle.std.proofs.Common.{◌∙◌, arith}
use Rattle.rules.proofs.Laws.Sums.{sums_are}
use Rattle.sums.proofs.filling.fill.Goals as goal

pub returns : goal.returns
returns c =
    let i = c.loop-k.invariant in let fit = c.requires.0 in
    sums_are c.args.bed.now c.args.state.now c.loop-k.sums (i.0 ∙ fit.blocks) (λ m h. i.1 m (omega (arith, fit.blocks, i.0)))
