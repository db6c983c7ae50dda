-- The numbers of the cell are read out of an array: what each call is given, and what it gives.
use Rattle.std.proofs.Common.{◌≡◌, ◌∙◌, ap₂, [], ◌∷◌, ◌+◌, ◌^◌, ◌<◌, ℤ, pos, nat_abs, ◌-ℤ◌, ◌+ℤ◌, cond, arith}
use Rattle.std.specs.Int.Signed.{mag}
use Rattle.whole.specs.Machine.{Got, g_add, g_fits, g_back, rd, back, back64}
use Rattle.tables.specs.Cells.{Cell, as_cell}
use Rattle.rules.specs.Limits.{highest_bed}
use Rattle.rules.specs.Reach.{Bed, z0, z1, h0, h1}
use Rattle.rules.specs.Finishing.{beyond, clipped, cut}
use Rattle.reach.specs.Told.{bed_in}
use Rattle.reach.specs.Ranges.{Unfinished}
use Rattle.finishing.specs.Depths.{widest_depth}
use Rattle.finishing.specs.Laws.Sizes.{z0_size, z1_size, h0_size, h1_size, clip_size}
use Rattle.finishing.specs.Laws.Depths.{depth_fits_lem, depth_is}
use Rattle.finishing.proofs.cell.cut_cell.Goals as goal

-- a cell over its bed, of which two calls gave the mean and the slope
module _ {b : Bed} {x : Cell} (w : Unfinished b x) {ground tilt : ℤ} (at_mean : ground ≡ z0 b) (at_slope : tilt ≡ z1 b) where
  -- the mean depth and the depth's slope
  abbrev depth : ℤ
  depth = rd (rd x.e0 -ℤ rd ground)

  abbrev rise : ℤ
  rise = rd (rd x.e1 -ℤ rd tilt)

  mean : depth ≡ h0 b x
  unfolding h0
  mean = depth_is w.wide.e0 (z0_size b w.grounded) at_mean

  slope : rise ≡ h1 b x
  unfolding h1
  slope = depth_is w.wide.e1 (z1_size b w.grounded) at_slope

  -- the slope after the cut, and that of the bed, which it is added to
  level : (cut_to : ℤ) → mag cut_to < 2 ^ 63 → mag tilt < 2 ^ 63 → cut_to ≡ clipped depth rise
      → Got (nat_abs widest_depth + nat_abs highest_bed) (rd cut_to +ℤ rd tilt) (clipped (h0 b x) (h1 b x) +ℤ z1 b)
  level cut_to m n e = g_add
      (record { same = back64 m (e ∙ ap₂ clipped mean slope); bound = clip_size (h0 b x) (h1 b x) (h0_size b x w) (h1_size b x w) })
      (record { same = back64 n at_slope; bound = z1_size b w.grounded })

pub overflow_sub-mean : goal.overflow_sub-mean
overflow_sub-mean c = depth_fits_lem c.requires.wide.e0 (z0_size (bed_in c.args.b) c.requires.grounded) c.z0.ensures

pub overflow_sub-slope : goal.overflow_sub-slope
overflow_sub-slope c = depth_fits_lem c.requires.wide.e1 (z1_size (bed_in c.args.b) c.requires.grounded) c.z1-tilt.ensures

pub clip-requires : goal.clip-requires
clip-requires c = rw (mean c.requires c.z0.ensures c.z1-tilt.ensures) (h0_size (bed_in c.args.b) (as_cell c.args.x) c.requires)

pub uncut-q1-requires : goal.uncut-q1-requires
uncut-q1-requires c = rw (mean c.requires c.z0.ensures c.z1-tilt.ensures) (h0_size (bed_in c.args.b) (as_cell c.args.x) c.requires)

pub overflow_add-e1 : goal.overflow_add-e1
overflow_add-e1 c = g_fits (level c.requires c.z0.ensures c.z1-tilt.ensures c.clip.result c.clip.type_inv c.z1-tilt.type_inv c.clip.ensures) tt

pub returns : goal.returns
unfolding cut
returns c =
    let x = as_cell c.args.x in let w = c.requires in let z = c.z0.ensures in let t = c.z1-tilt.ensures in
    let e1 = g_back (level w z t c.clip.result c.clip.type_inv c.z1-tilt.type_inv c.clip.ensures) tt in
    let q1 = back {z = x.q1} (omega arith) in
    λ i. back {z = x.e0} (omega arith) i
    ∷ e1.same i
    ∷ back {z = x.q0} (omega arith) i
    ∷ back64 c.uncut-q1.type_inv (c.uncut-q1.ensures ∙ (λ j. cond (beyond (mean w z t j) (slope w z t j)) (pos 0) (q1 j))) i
    ∷ []
