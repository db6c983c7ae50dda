-- Each test is the rule's, in the rule's order.
use mathlib.Core.Bool.{not}
use borrow.Author.Tests.{lt-ltb, le-ltb, eq-eqb, ne_eqb}
use lib.Dec.{eqb}
use Rattle.whole.specs.Flags.{or_last}
use Rattle.rules.specs.Refusals.{any, bad_end}
use Rattle.stage.proofs.checks.bad_end.Goals as goal

pub returns-then-end-gt-INFLOW : goal.returns-then-end-gt-INFLOW
unfolding bad_end any
returns-then-end-gt-INFLOW c = rw (lt-ltb _ _ c.if-end-gt-INFLOW.true)

pub returns-then-end-gt-LARGEST_INFLOW : goal.returns-then-end-gt-LARGEST_INFLOW
unfolding bad_end any
returns-then-end-gt-LARGEST_INFLOW c = let e = c.before.before in rw (le-ltb _ _ e.if-end-gt-INFLOW.false, lt-ltb _ _ c.if-end-gt-LARGEST_INFLOW.true)

pub returns-then-end-eq-INFLOW : goal.returns-then-end-eq-INFLOW
unfolding bad_end any
returns-then-end-eq-INFLOW c = let f = c.before.before in let e = f.before.before in
    rw (le-ltb _ _ e.if-end-gt-INFLOW.false, le-ltb _ _ f.if-end-gt-LARGEST_INFLOW.false, eq-eqb _ _ c.if-end-eq-INFLOW.true)

pub returns : goal.returns
unfolding bad_end any
returns c = let g = c.before in let f = g.before.before in let e = f.before.before in
    rw (le-ltb _ _ e.if-end-gt-INFLOW.false, le-ltb _ _ f.if-end-gt-LARGEST_INFLOW.false, ne_eqb _ _ g.if-end-eq-INFLOW.false)
    (or_last (not (eqb e.args.end.q 0)))
