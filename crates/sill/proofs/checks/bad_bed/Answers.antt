use Rattle.std.proofs.Common.{sym, ◌∙◌, ap, pos, arith}
use Rattle.whole.specs.Machine.{back64}
use Rattle.rules.specs.Limits.{highest_bed}
use Rattle.rules.specs.Refusals.{outside}
use Rattle.sill_rules.specs.Refusals.{bad_bed}
use Rattle.reach.specs.Places.{scan_place, scan_no_place}
use Rattle.sill.proofs.checks.bad_bed.Goals as goal

pub returns-then-outside : goal.returns-then-outside
unfolding bad_bed
returns-then-outside c =
    scan_place c.loop-i.invariant (omega arith)
    (sym (c.outside.ensures ∙ ap (outside (pos 0) highest_bed) (back64 c.bed_at.type_inv c.bed_at.ensures))) c.if-outside.true

pub returns : goal.returns
returns c = scan_no_place c.loop-i.invariant (omega arith)
