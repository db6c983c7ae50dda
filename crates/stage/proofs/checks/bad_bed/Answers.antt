use Rattle.std.proofs.Common.{sym, ◌∙◌, ap, arith}
use Rattle.whole.specs.Machine.{back64}
use Rattle.rules.specs.Refusals.{bad_bed}
use Rattle.reach.specs.Places.{scan_place, scan_no_place}
use Rattle.stage.proofs.checks.bad_bed.Goals as goal

pub returns-then-bad_value : goal.returns-then-bad_value
returns-then-bad_value c =
    scan_place c.loop-i.invariant (omega arith) (sym (c.bad_value.ensures ∙ ap bad_bed (back64 c.bed_at.type_inv c.bed_at.ensures)))
    c.if-bad_value.true

pub returns : goal.returns
returns c = scan_no_place c.loop-i.invariant (omega arith)
