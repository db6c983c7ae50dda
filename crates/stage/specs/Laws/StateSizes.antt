-- How large the numbers of a step's states can be: sides and faces of a state in range, the unfinished states, the finished ones.
-- Assumes nothing.
use Rattle.std.specs.Prelude.{◌≡◌, false, cond, List, [], ℕ, suc, get_or, ℤ, pos, ◌≤ℤ◌}
use Rattle.std.proofs.Common.{sym, subst, arith}
use Rattle.std.specs.Int.Signed.{le_z}
use Rattle.whole.specs.Flags.{cond_ind, or_l, or_r}
use Rattle.whole.specs.Parts.{b_add, b_sub, b_mul, b_lit, b_up}
use Rattle.whole.specs.Quotient.{b_quot_by}
use Rattle.whole.specs.Choice.{within_past}
use Rattle.tables.specs.Some.{some}
use Rattle.tables.proofs.Some.{some_none}
use Rattle.tables.specs.Rows.{Written}
use Rattle.tables.specs.Cells.{Cell, as_cell, seen, Holds}
use Rattle.rules.specs.Limits.{deepest, fastest}
use Rattle.rules.specs.Face.{speed}
use Rattle.rules.specs.Reach.{Reach, Call, State, Bed, h0, h1, hl, hr, ql, qr, side_l, side_r, bed_at}
use Rattle.rules.specs.Stage.{carried, gauss, flow_before, flow_behind, depth_before, depth_behind, stage}
use Rattle.rules.specs.Finishing.{is_limited, limit, beyond, cut, dried}
use Rattle.rules.specs.Step.{half, joined_cell}
use Rattle.rules.specs.Refusals.{past, fast_points}
use Rattle.rules.specs.Laws.Sizes.{Sound}
use Rattle.reach.specs.Ranges.{UpTo, widest, Ground, Wide}
use Rattle.finishing.specs.Laws.Sizes.{limited_or_not, z0_size, z1_size, clip_size}
use Rattle.stage.specs.Rows.{sides_at, fast_sides, Sounds, no_row, join_at}
use Rattle.stage.specs.declared.rows.FaceRow.{FaceRow}
use Rattle.stage.specs.Ranges.{widest_level, most_momentum, Small, Smalls, Inside, Ranged, Row, FaceRows}
use Rattle.stage.specs.Says.{StageDone, JoinSays}
use Rattle.stage.specs.Laws.CellSizes.{cell_sizes}
use Rattle.stage.specs.Laws.RowsAreRules.{left_in_lem, right_in_lem, slow_sides}

-- ---- sides that passed check 6
sound : (dry h q : ℤ) → pos 0 ≤ℤ h → h ≤ℤ deepest → past fastest (speed dry q h) ≡ false → Sound (record { h = h; u = speed dry q h })
sound dry h q l m f = record { least = l; most = m; speed = within_past 131072 (speed dry q h) f }

pub sounds : (dry : ℤ) (n : ℕ) (bed : List ℤ) (s : State) → Ranged bed n s → some (fast_sides dry bed s) n ≡ false
    → (d : List (List ℤ)) → Written [] d n (sides_at dry bed s) → Sounds d n
unfolding side_l side_r hl hr
sounds dry n bed s inside e d w i l =
    let b = bed_at bed i in let x = s i in let f = (cell_sizes (inside i l)).faces in
    let slow = slow_sides dry bed s i (some_none (fast_sides dry bed s) n e i l) in (
      subst Sound (sym (left_in_lem dry bed s d i (w i l))) (sound dry (hl b x) (ql x) f.left f.left_most slow.0),
      subst Sound (sym (right_in_lem dry bed s d i (w i l))) (sound dry (hr b x) (qr x) f.right f.right_most slow.1),
    )

-- ---- Gauss points that passed check 6
pub gauss_size : (dry : ℤ) (b : Bed) (x : Cell) → Inside b x → fast_points dry b x ≡ false → UpTo most_momentum (gauss dry b x)
unfolding gauss carried fast_points
gauss_size dry b x i e =
    let q = (cell_sizes i).points in
    let u = speed dry (flow_before x) (depth_before b x) in let w = speed dry (flow_behind x) (depth_behind b x) in
    let u-in = within_past 131072 u (or_l (past fastest u) (past fastest w) e) in
    let w-in = within_past 131072 w (or_r (past fastest u) (past fastest w) e) in
    b_up 1073741824 (b_add (b_quot_by (pos 4096) (b_mul q.ql u-in)) (b_quot_by (pos 4096) (b_mul q.qr w-in))) tt

-- ---- unfinished states
pub small_wide : {x : Cell} → Small x → Wide x
small_wide w = record { e0 = b_up 70368744177664 w.e0 tt; e1 = b_up 70368744177664 w.e1 tt; q0 = w.q0; q1 = w.q1 }

pub inside_small : {b : Bed} {x : Cell} → Inside b x → Small x
inside_small i = let q = cell_sizes i in
    record {
      e0 = b_up 2199023255552 q.e0 tt;
      e1 = b_up 2199023255552 q.e1 tt;
      q0 = b_up 70368744177664 q.q0 tt;
      q1 = b_up 70368744177664 q.q1 tt;
    }

joined_small : {b : Bed} (x y : Cell) (f g h k : FaceRow) → Inside b x → Small y → Row f → Row g → Row h → Row k
    → Small (joined_cell x y (half f.volume g.volume) (half h.volume k.volume))
unfolding joined_cell half
joined_small x y f g h k i w p q r s =
    let z = cell_sizes i in let v = inside_small i in
    let wl = b_quot_by (pos 2) (b_add p.vol q.vol) in let wr = b_quot_by (pos 2) (b_add r.vol s.vol) in
    record {
      e0 = b_up 2199023255552 (b_sub (b_add z.e0 wl) wr) tt;
      e1 = b_up 2199023255552 (b_quot_by (pos 2) (b_add v.e1 w.e1)) tt;
      q0 = b_up 70368744177664 (b_quot_by (pos 2) (b_add v.q0 w.q0)) tt;
      q1 = b_up 70368744177664 (b_quot_by (pos 2) (b_add v.q1 w.q1)) tt;
    }

-- in tables: one that shows a small state, and what the volumes of the faces join
shown_small : (n : ℕ) (s : State) (u : List (List ℤ)) → Holds u n s → Smalls n s → Smalls n (seen u)
shown_small n s u h w i l = subst (λ (m : List ℤ). Small (as_cell m)) (sym (h i l)) (w i l)

pub done_small : {r : Reach} {c : Call} {s : State} {f : List FaceRow} {u : List (List ℤ)} → StageDone r c s f u → Smalls r.n (seen u)
done_small {r} {c} {s} {f} {u} d = shown_small r.n (stage r c s) u d.cells d.small

pub join_small : {n : ℕ} {a y : State} {f h : List FaceRow} {j : List (List ℤ)} (bed : List ℤ) → JoinSays n a y f h j → Ranged bed n a
    → Smalls n y → FaceRows f n → FaceRows h n → Smalls n (seen j)
join_small {n} {a} {y} {f} {h} {j} bed d ra w p q = shown_small n (join_at a y f h) j d.cells
    (λ i l. joined_small (a i) (y i) (get_or f i no_row) (get_or h i no_row) (get_or f (suc i) no_row) (get_or h (suc i) no_row)
    (ra i l) (w i l) (p i (omega arith)) (q i (omega arith)) (p (suc i) (omega arith)) (q (suc i) (omega arith)))

-- ---- finished states
pub finish_wide : (r : Reach) (c : Call) (s : State) (i : ℕ) (b : Bed) → Ground b → Small (s i)
    → Wide (dried c.dry b (cut b (limit r c s i)))
unfolding dried cut limit h0 h1
finish_wide r c s i b g w =
    let y = limit r c s i in let m = h0 b y in let d = h1 b y in
    let e1 : UpTo widest_level y.e1 = limited_or_not (is_limited r c s i) r (λ j. (s j).e0) i (s i).e1 w.e1 in
    let q1 : UpTo widest y.q1 = limited_or_not (is_limited r c s i) r (λ j. (s j).q0) i (s i).q1 w.q1 in
    let mid = b_sub w.e0 (z0_size b g) in let tilt = b_sub e1 (z1_size b g) in
    let nought : UpTo widest (pos 0) = b_up 70368744177664 (b_lit (pos 0)) tt in
    record {
      e0 = b_up 70368744177664 w.e0 tt;
      e1 = b_up 70368744177664 (b_add (clip_size m d mid tilt) (z1_size b g)) tt;
      q0 = cond_ind (le_z m c.dry) (pos 0) (s i).q0 (UpTo widest) (λ e. nought) (λ e. w.q0);
      q1 = cond_ind (le_z m c.dry) (pos 0) (cond (beyond m d) (pos 0) y.q1) (UpTo widest) (λ e. nought)
          (λ e. cond_ind (beyond m d) (pos 0) y.q1 (UpTo widest) (λ k. nought) (λ k. q1));
    }
