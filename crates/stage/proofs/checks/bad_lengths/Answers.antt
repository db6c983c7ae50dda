-- The tests are the rule's, in its order.
use borrow.Author.Tests.{eq-eqb, ne_eqb, lt-ltb, le-ltb}
use Rattle.rules.specs.Refusals.{any}
use Rattle.rules.specs.Lent.{misfit}
use Rattle.stage.proofs.checks.bad_lengths.Goals as goal

pub returns-then-n-eq0 : goal.returns-then-n-eq0
unfolding misfit any
returns-then-n-eq0 c = rw (eq-eqb _ _ c.if-n-eq0.true)

pub returns-then-n-gt-CELLS : goal.returns-then-n-gt-CELLS
unfolding misfit any
returns-then-n-gt-CELLS c = rw (ne_eqb _ _ c.if-n-eq0.false, lt-ltb _ _ c.if-n-gt-CELLS.true)

pub returns-then-state-n : goal.returns-then-state-n
unfolding misfit any
returns-then-state-n c = let e = c.before in rw (ne_eqb _ _ e.if-n-eq0.false, le-ltb _ _ e.if-n-gt-CELLS.false, ne_eqb _ _ c.if-state-n.true)

pub returns-then-next-n : goal.returns-then-next-n
unfolding misfit any
returns-then-next-n c =
    let f = c.before in let e = f.before in
    rw (ne_eqb _ _ e.if-n-eq0.false, le-ltb _ _ e.if-n-gt-CELLS.false, eq-eqb _ _ f.if-state-n.false, ne_eqb _ _ c.if-next-n.true)

pub returns-then-bed-n : goal.returns-then-bed-n
unfolding misfit any
returns-then-bed-n c =
    let g = c.before in let f = g.before in let e = f.before in
    rw (
      ne_eqb _ _ e.if-n-eq0.false,
      le-ltb _ _ e.if-n-gt-CELLS.false,
      eq-eqb _ _ f.if-state-n.false,
      eq-eqb _ _ g.if-next-n.false,
      ne_eqb _ _ c.if-bed-n.true,
    )

pub returns : goal.returns
unfolding misfit any
returns c =
    let g = c.before in let f = g.before in let e = f.before in
    rw (
      ne_eqb _ _ e.if-n-eq0.false,
      le-ltb _ _ e.if-n-gt-CELLS.false,
      eq-eqb _ _ f.if-state-n.false,
      eq-eqb _ _ g.if-next-n.false,
      eq-eqb _ _ c.if-bed-n.false,
    )
