use Rattle.std.proofs.Common.{◌≡◌, refl, true, false, get_or, pos, ℕ, ◌<◌, ◌≤◌, arith, lt-ltb, le-ltb}
use Rattle.rules.specs.Refusals.{bad_rough}
use Rattle.tables.proofs.Scan.{scan_more}
use Rattle.reach.specs.Places.{scan_place, scan_no_place}
use Rattle.reach.proofs.friction.bad_friction.Goals as goal

-- over 200 or not; no value is below nought
over : (x : ℕ) → 200 < x → bad_rough (pos x) ≡ true
unfolding bad_rough
over x h = rw (le-ltb x 0 (omega arith), lt-ltb 200 x h)

fine : (x : ℕ) → x ≤ 200 → bad_rough (pos x) ≡ false
unfolding bad_rough
fine x h = rw (le-ltb x 0 (omega arith), le-ltb 200 x h)

pub returns-then-rough-gt-ROUGHEST : goal.returns-then-rough-gt-ROUGHEST
returns-then-rough-gt-ROUGHEST c =
    scan_place c.loop-i.invariant (omega arith) (over (get_or c.args.friction.now c.loop-i.i 0) (omega arith)) refl

pub loop-i-preserved : goal.loop-i-preserved
loop-i-preserved c =
    scan_more c.loop-i.invariant (omega arith) (fine (get_or c.args.friction.now c.loop-i.i 0) (omega arith)) refl

pub returns : goal.returns
returns c = scan_no_place c.loop-i.invariant (omega arith)
