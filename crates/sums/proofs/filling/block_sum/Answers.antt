-- The cells of a block are some of the reach, and their depths are in range.
use Rattle.std.proofs.Common.{◌≡◌, ◌∙◌, ap, ℕ, ◌^◌, ◌<◌, arith}
use Rattle.std.specs.Int.Signed.{mag}
use Rattle.whole.specs.Machine.{narrows, narrowed}
use Rattle.rules.specs.StateAndBed.{depth_in}
use Rattle.rules.specs.Sums.{block_from, block_to, sum_to, block_sum}
use Rattle.sums.specs.Laws.Depths.{block_within, block_small}
use Rattle.sums.proofs.filling.block_sum.Goals as goal

pub depths-requires : goal.depths-requires
depths-requires c =
    let p = c.args in let n = c.requires.n_value in let e = c.block_to.ensures in
    let w = block_within p.bed.now p.state.now p.k (rw (← n.0) n.3) in
    rw (e, n.0) (omega (arith, w), omega (arith, w, n), omega (arith, w, n), omega (arith, w, n))

-- what the cells of the block come to
sum_is : (c : goal.After-depths) → let p = c.args in c.depths.result ≡ block_sum p.bed.now p.state.now p.k
unfolding block_sum
sum_is c = let p = c.args in
    c.depths.ensures.is ∙ ap (sum_to (depth_in p.bed.now p.state.now) (block_from p.k))
    (c.block_to.ensures ∙ ap (λ (n : ℕ). block_to n p.k) c.requires.n_value.0)

small : (c : goal.After-depths) → mag c.depths.result < 2 ^ 31
small c = let n = c.requires.n_value in
    rw (sum_is c) (block_small c.args.bed.now c.args.state.now c.args.k (rw (← n.0) n.3) c.requires.depths_in)

pub overflow_cast-result : goal.overflow_cast-result
overflow_cast-result c = narrows c.depths.result (small c)

pub returns : goal.returns
returns c = narrowed (small c) ∙ sum_is c
