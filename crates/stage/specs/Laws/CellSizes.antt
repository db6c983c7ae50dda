-- The size of every number that a stage forms of a cell in range, and of any cell that it can leave.
-- Assumes nothing.
use Rattle.std.specs.Prelude.{◌≡◌, false, ℕ, ◌*◌, ◌/◌, ◌≤◌, ℤ, pos, nat_abs, ◌+ℤ◌, ◌-ℤ◌, ◌*ℤ◌, ◌≤ℤ◌}
use Rattle.std.proofs.Common.{◌∙◌, ap, subst, arith}
use Rattle.std.specs.Int.Signed.{quot_z}
use Rattle.whole.specs.Parts.{Within, b_add, b_lit, b_up, abs_mul}
use Rattle.whole.specs.Difference.{at, ◌⊞◌, ◌⊟◌, eq! }
use Rattle.whole.specs.Quotient.{b_quot_by, abs_quot}
use Rattle.whole.specs.Choice.{within_past}
use Rattle.tables.specs.Cells.{Cell}
use Rattle.rules.specs.Limits.{highest_bed, deepest, fullest}
use Rattle.rules.specs.Reach.{Bed, ql, qr, z0, z1, h0, h1, hl, hr}
use Rattle.rules.specs.Stage.{share}
use Rattle.rules.specs.Step.{half}
use Rattle.rules.specs.Refusals.{any, outside, past, cell_tests, off_cell}
use Rattle.rules.proofs.Laws.Accept.{none_at}
use Rattle.rules.proofs.Laws.Inside.{above_least, below_most}
use Rattle.reach.specs.Ranges.{UpTo, widest, Wide}
use Rattle.finishing.specs.Laws.Sizes.{z0_size, z1_size}
use Rattle.stage.specs.Ranges.{highest_level, steepest_level, most_volume, Inside, Around}
use Rattle.stage.specs.Laws.Around.{mean_least, mean_most, mean_size, slope_size, flow_mean, flow_slope, nearer}

-- ---- a cell in range
pub record CellSizes (b : Bed) (x : Cell) : Type 0 where
  pub wide : Wide x
  pub e0 : UpTo highest_level x.e0
  pub e1 : UpTo steepest_level x.e1
  pub q0 : UpTo fullest x.q0
  pub q1 : UpTo fullest x.q1
  pub mean : pos 0 ≤ℤ h0 b x
  pub mean_most : h0 b x ≤ℤ deepest
  pub slope : Within 131072 (h1 b x)
  pub z1 : UpTo highest_bed (z1 b)
  -- its faces, and its Gauss points
  pub faces : Around (h0 b x) (h1 b x) x.q0 x.q1
  pub points : Around (h0 b x) (share (h1 b x)) x.q0 (share x.q1)

-- ---- what a stage forms
-- half of two numbers of any cell is one
pub half_size : {a b : ℤ} → UpTo widest a → UpTo widest b → UpTo widest (half a b)
unfolding half
half_size p q = b_up 70368744177664 (b_quot_by (pos 2) (b_add p q)) tt

-- and half of two volumes is no larger than the largest
pub volume_size : {a b : ℤ} → UpTo most_volume a → UpTo most_volume b → UpTo most_volume (half a b)
unfolding half
volume_size p q = b_up 210696667136 (b_quot_by (pos 2) (b_add p q)) tt

-- a Gauss point's share of a slope is no larger than the slope
share_size : {A : ℕ} (x : ℤ) → Within A x → Within A (share x)
unfolding share
share_size {A} x w = record {
  abs = small (nat_abs x) (nat_abs (quot_z (pos 37837 *ℤ x) (pos 65536)))
      (abs_quot (pos 37837 *ℤ x) (pos 65536) ∙ ap (λ (m : ℕ). m / 65536) (abs_mul (pos 37837) x)) w.abs;
}
  where
    small : (m q : ℕ) → q ≡ 37837 * m / 65536 → m ≤ A → q ≤ A
    small m q e l = omega arith

-- ---- a cell that passed check 5 or 8
-- the four tests of its range, one by one
pub record InRange (b : Bed) (x : Cell) : Type 0 where
  pub left : outside (pos 0) deepest (hl b x) ≡ false
  pub right : outside (pos 0) deepest (hr b x) ≡ false
  pub ql : past fullest (ql x) ≡ false
  pub qr : past fullest (qr x) ≡ false

pub in_range : (b : Bed) (x : Cell) → off_cell b x ≡ false → InRange b x
unfolding off_cell
in_range b x e = let fails = none_at (cell_tests b x) e in record { left = fails 0; right = fails 1; ql = fails 2; qr = fails 3 }

pub range_in : (b : Bed) (x : Cell) → InRange b x → off_cell b x ≡ false
unfolding off_cell any
range_in b x h = rw (h.left, h.right, h.ql, h.qr)

faces_of : {b : Bed} {x : Cell} → InRange b x → Around (h0 b x) (h1 b x) x.q0 x.q1
unfolding hl hr
faces_of {b} {x} f = record {
  left = above_least (pos 0) deepest (hl b x) f.left;
  left_most = below_most (pos 0) deepest (hl b x) f.left;
  right = above_least (pos 0) deepest (hr b x) f.right;
  right_most = below_most (pos 0) deepest (hr b x) f.right;
  ql = within_past 8388608 (ql x) f.ql;
  qr = within_past 8388608 (qr x) f.qr;
}

pub cell_sizes : {b : Bed} {x : Cell} → Inside b x → CellSizes b x
unfolding h0 h1
cell_sizes {b} {x} i =
    let f = faces_of (in_range b x i.range) in
    let mid = z0_size b i.grounded in let tilt = z1_size b i.grounded in
    let e0 : UpTo highest_level x.e0 = subst (UpTo highest_level) (back x.e0 (z0 b)) (b_add (mean_size f) mid) in
    let e1 : UpTo steepest_level x.e1 = subst (UpTo steepest_level) (back x.e1 (z1 b)) (b_add (slope_size f) tilt) in
    let q0 = flow_mean x.q0 x.q1 f.ql f.qr in let q1 = flow_slope x.q0 x.q1 f.ql f.qr in
    record {
      wide = record {
        e0 = b_up 70368744177664 e0 tt;
        e1 = b_up 70368744177664 e1 tt;
        q0 = b_up 70368744177664 q0 tt;
        q1 = b_up 70368744177664 q1 tt;
      };
      e0 = e0;
      e1 = e1;
      q0 = q0;
      q1 = q1;
      mean = mean_least f;
      mean_most = mean_most f;
      slope = slope_size f;
      z1 = tilt;
      faces = f;
      points = nearer f (share (h1 b x)) (share x.q1) (share_size (h1 b x) (b_lit (h1 b x))) (share_size x.q1 (b_lit x.q1));
    }
  where
    back : (e z : ℤ) → (e -ℤ z) +ℤ z ≡ e
    back e z = eq! (at e ⊟ at z ⊞ at z) (at e) (omega arith)
