-- The code's two tests are those of the contract: each is asked of a number's bits, and the slope only where the mean is nought.
use Rattle.std.specs.Prelude.{pos}
use Rattle.std.proofs.Common.{sym, ◌∙◌, eq-eqb, ne_eqb, arith}
use mir.Facts.{sfits_lit}
use Rattle.whole.specs.Equal.{test_is}
use Rattle.tables.specs.Cells.{as_cell}
use Rattle.stage.proofs.rubbed.calm.Goals as goal

pub returns-then-x-eq0 : goal.returns-then-x-eq0
returns-then-x-eq0 c =
    let x = as_cell c.args.x in
    rw (sym (test_is {a = x.q0} {b = pos 0} (record { sfits = omega arith }) (sfits_lit tt)) ∙ eq-eqb _ _ c.if-x-eq0.true)
    (test_is {a = x.q1} {b = pos 0} (record { sfits = omega arith }) (sfits_lit tt))

pub returns-else-x-eq0 : goal.returns-else-x-eq0
returns-else-x-eq0 c =
    let no = ne_eqb _ _ c.if-x-eq0.false in
    rw (sym (test_is {a = (as_cell c.args.x).q0} {b = pos 0} (record { sfits = omega arith }) (sfits_lit tt)) ∙ no) no
