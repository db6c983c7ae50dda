-- Friction leaves a cell in range: it takes from a discharge and never turns or adds to it.
-- Assumes nothing.
use Rattle.std.specs.Prelude.{◌≤◌, ℤ, pos, nat_abs, ◌≤ℤ◌}
use Rattle.std.proofs.Common.{arith}
use Rattle.whole.specs.Parts.{b_add, b_sub, b_lit}
use Rattle.whole.specs.Choice.{not_beyond}
use Rattle.tables.specs.Cells.{Cell}
use Rattle.rules.specs.Limits.{least_dry}
use Rattle.rules.specs.Reach.{Bed, ql, qr, h0, h1, hl, hr}
use Rattle.rules.specs.Step.{rub, rubbed_cell}
use Rattle.rules.proofs.Laws.Friction.{after_size}
use Rattle.stage.specs.Ranges.{Inside}
use Rattle.stage.specs.Laws.Around.{flow_sum}
use Rattle.stage.specs.Laws.CellSizes.{cell_sizes, in_range, range_in}

rub_size : (dt d f : ℤ) (b : Bed) (x : Cell) (q : ℤ) → pos 0 ≤ℤ dt → least_dry ≤ℤ d → nat_abs (rub dt d f b x q) ≤ nat_abs q
unfolding rub
rub_size dt d f b x q p l = after_size dt d f (h0 b x) x.q0 q p l

pub rubbed_inside : (dt d f : ℤ) (b : Bed) (x : Cell) → pos 0 ≤ℤ dt → least_dry ≤ℤ d → Inside b x → Inside b (rubbed_cell dt d f b x)
unfolding rubbed_cell hl hr h0 h1
rubbed_inside dt d f b x p l i =
    let g = in_range b x i.range in let y = rubbed_cell dt d f b x in
    let k = (cell_sizes i).faces in let w = flow_sum x.q0 x.q1 k.ql k.qr in
    let u : nat_abs y.q0 ≤ nat_abs x.q0 = rub_size dt d f b x x.q0 p l in
    let v : nat_abs y.q1 ≤ nat_abs x.q1 = rub_size dt d f b x x.q1 p l in
    record {
      grounded = i.grounded;
      range = range_in b y (record {
        left = g.left;
        right = g.right;
        ql = not_beyond 8388608 (ql y) (record { abs = omega (arith, (b_sub (b_lit y.q0) (b_lit y.q1)).abs) });
        qr = not_beyond 8388608 (qr y) (record { abs = omega (arith, (b_add (b_lit y.q0) (b_lit y.q1)).abs) });
      });
    }
