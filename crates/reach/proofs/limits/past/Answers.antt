-- Below nought the test of -1 - x against the limit is that of the size; from nought on a number is its own size.
use mathlib.Core.Path.{sym, ◌∙◌, ap, ap₂}
use lib.IntN.{pos, negsuc, ◌-ℤ◌}
use lib.Signed.{le_z, lt_z}
use mir.Facts.{to_z-of_z}
use Rattle.whole.specs.Tests.{lt_no}
use Rattle.whole.specs.Choice.{size_of}
use Rattle.whole.specs.Signs.{flip_fits, below_size}
use Rattle.reach.proofs.limits.past.Goals as goal

pub overflow_sub-result : goal.overflow_sub-result
overflow_sub-result c =
    let s = c.before in
    rw (to_z-of_z s.ranges.x) (flip_fits s.args.x (simp (to_z-of_z, s.ranges.x) at c.if-x-lt0.true) s.ranges.x.sfits)

pub returns-then-x-lt0 : goal.returns-then-x-lt0
returns-then-x-lt0 c =
    let s = c.before in let x = s.args.x in
    let below = simp (to_z-of_z, s.ranges.x) at c.if-x-lt0.true in
    let turned = ap (λ z. negsuc 0 -ℤ z) (to_z-of_z s.ranges.x) in
    ap₂ le_z (to_z-of_z s.ranges.most) (to_z-of_z (overflow_sub-result c) ∙ turned) ∙ below_size s.args.most x below

pub returns : goal.returns
returns c =
    let s = c.before in let x = s.args.x in
    let up = lt_no x (pos 0) (simp (to_z-of_z, s.ranges.x) at c.if-x-lt0.false) in
    ap₂ lt_z (to_z-of_z s.ranges.most) (to_z-of_z s.ranges.x ∙ sym (size_of x up))
