-- Past its end the table has nought at both faces, or at the right one.
use mathlib.Core.Path.{◌≡◌, sym, ◌∙◌, ap}
use Prim.Native.Nat.{ℕ, suc, ◌+◌}
use native.Mathlib.Omega.{arith}
use lib.ListN.{get_or}
use lib.IntN.{pos}
use Rattle.whole.specs.Machine.{read32}
use Rattle.tables.specs.Rows.{get_d_past}
use Rattle.reach.proofs.bed.under.Goals as goal

pub returns-then-i-bed : goal.returns-then-i-bed
returns-then-i-bed c =
    let s = c.before in let z = s.args.bed.now in let i = s.args.i in
    let p = sym (get_d_past z i (pos 0) (omega (arith, c.if-i-bed.true))) in
    let q = sym (get_d_past z (suc i) (pos 0) (omega (arith, c.if-i-bed.true))) in
    λ j. record { zl = p j; zr = q j }

pub returns-then-i-bed-2 : goal.returns-then-i-bed-2
returns-then-i-bed-2 c =
    let r = c.before in let s = r.before.before in let z = s.args.bed.now in let i = s.args.i in
    let q = sym (get_d_past z (suc i) (pos 0) (omega (arith, c.if-i-bed-2.true))) in
    λ j. record { zl = read32 (get_or z i (pos 0)) r.zl-1.given j; zr = q j }

pub returns : goal.returns
returns c =
    let r = c.before.before in let s = r.before.before in let z = s.args.bed.now in let i = s.args.i in
    let next : i + 1 ≡ suc i = omega arith in
    let p = read32 (get_or z i (pos 0)) r.zl-1.given in
    let q = read32 (get_or z (i + 1) (pos 0)) c.result-1.given ∙ ap (λ (j : ℕ). get_or z j (pos 0)) next in
    λ j. record { zl = p j; zr = q j }
