-- The number, and the table as it was left.
use Rattle.std.proofs.Common.{sym, ◌∙◌, ap}
use Rattle.reach.specs.Refusals.{told_number}
use Rattle.editor.proofs.bassoonsun_sums.Goals as goal

pub returns-in-Ok : goal.returns-in-Ok
returns-in-Ok c = let g = c.make.ensures in record { number = sym (ap told_number c.in-Ok.is) ∙ g.number; table = g.table }

pub returns-in-Err : goal.returns-in-Err
returns-in-Err c = let g = c.make.ensures in
    record { number = c.from.ensures ∙ sym (ap told_number c.in-Err.is) ∙ g.number; table = g.table }
