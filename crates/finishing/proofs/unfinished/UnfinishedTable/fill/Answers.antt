use mathlib.Core.List.{[]}
use Prim.Native.Nat.{◌<◌}
use native.Mathlib.Omega.{arith}
use lib.ListN.{length}
use Rattle.tables.specs.Rows.{filled_none, filled_more, filled_all}
use Rattle.finishing.proofs.unfinished.UnfinishedTable.fill.Goals as goal

pub loop-i-init : goal.loop-i-init
loop-i-init c = λ ρ. filled_none [] c.args.t.now _

pub finished-requires : goal.finished-requires
finished-requires c =
    let p = c.requires in record {
      row = record { below = omega arith; room = p.n_in_bounds.0; wide = λ k h. (p.all_unfinished k h).wide };
      grounds = λ k h. (p.all_unfinished k h).grounded;
    }

pub loop-i-preserved : goal.loop-i-preserved
loop-i-preserved c =
    let l = c.loop-i in
    let room : l.i < length l.t = omega arith in
    λ ρ. filled_more [] _ l.t l.i _ _ room (l.invariant ρ) (c.finished.ensures ρ)

pub returns : goal.returns
returns c = λ ρ. filled_all [] _ _ c.loop-i.i _ _ (omega arith) (c.loop-i.invariant ρ)
