use Rattle.std.proofs.Common.{get_or, ℤ, pos, ◌<◌, ◌^◌, ◌∙◌, arith, rules}
use Rattle.std.specs.Int.Signed.{mag}
use Rattle.whole.specs.Parts.{b_up}
use Rattle.whole.specs.Machine.{read32, within32, back64}
use Rattle.sums.specs.Laws.Adding.{added_none, added_more}
use Rattle.sums.proofs.adding.added.Goals as goal

pub loop-k-init : goal.loop-k-init
loop-k-init c = added_none (λ i. get_or c.args.sums.now i (pos 0)) c.args.a

pub loop-k-preserved : goal.loop-k-preserved
loop-k-preserved c =
    let l = c.loop-k in let x : ℤ = get_or c.args.sums.now l.k (pos 0) in let word : mag x < 2 ^ 31 = search rules in
    let is = back64 c.from-water.type_inv (c.from-water.ensures ∙ read32 x word) in
    added_more l.invariant (omega arith) (omega arith) _ is (rw is (b_up _ (within32 word) tt))
