-- Two places of a cell, one on each side of its middle: the sizes of their depths and discharges, of the means and of the slopes.
-- Assumes nothing.
use Rattle.std.proofs.Common.{⊎_elim, arith, SFits}
use Rattle.std.specs.Prelude.{◌+◌, ◌≤◌, ℤ, pos, nat_abs, ◌+ℤ◌, ◌-ℤ◌, ◌≤ℤ◌}
use Rattle.std.specs.Int.{w64}
use Rattle.whole.specs.Parts.{Within, b_add, b_sub, b_lit, b_range, range_b, b_nonneg, abs_parts, one_part, fit}
use Rattle.whole.specs.Difference.{at, lit, ◌⊞◌, ◌⊟◌, ⊖, le!, le?}
use Rattle.rules.specs.Limits.{deepest, fullest}
use Rattle.reach.specs.Ranges.{UpTo}
use Rattle.stage.specs.Ranges.{Around}

-- ---- the mean and the slope of a discharge, of which sum and difference are within the greatest
module _ (p q : ℤ) (left : UpTo fullest (p -ℤ q)) (right : UpTo fullest (p +ℤ q)) where
  pub flow_sum : nat_abs p + nat_abs q ≤ 8388608
  flow_sum =
      let k = lit 8388608 in let l = range_b left in let r = range_b right in
      let x = le? (⊖ k) (at p ⊟ at q) l.0 in let y = le? (at p ⊟ at q) k l.1 in
      let z = le? (⊖ k) (at p ⊞ at q) r.0 in let w = le? (at p ⊞ at q) k r.1 in
      ⊎_elim (λ e. ⊎_elim (λ f. omega (arith, abs_parts p, abs_parts q)) (λ f. omega (arith, abs_parts p, abs_parts q)) (one_part q))
      (λ e. ⊎_elim (λ f. omega (arith, abs_parts p, abs_parts q)) (λ f. omega (arith, abs_parts p, abs_parts q)) (one_part q)) (one_part p)

  pub flow_mean : UpTo fullest p
  flow_mean = record { abs = omega (arith, flow_sum) }

  pub flow_slope : UpTo fullest q
  flow_slope = record { abs = omega (arith, flow_sum) }

module _ {m d p q : ℤ} (a : Around m d p q) where
  -- ---- the two places
  left_size : UpTo deepest (m -ℤ d)
  left_size = b_nonneg a.left a.left_most

  right_size : UpTo deepest (m +ℤ d)
  right_size = b_nonneg a.right a.right_most

  pub left_fits : SFits w64 (m -ℤ d)
  left_fits = fit left_size tt

  pub right_fits : SFits w64 (m +ℤ d)
  right_fits = fit right_size tt

  pub ql_fits : SFits w64 (p -ℤ q)
  ql_fits = fit a.ql tt

  pub qr_fits : SFits w64 (p +ℤ q)
  qr_fits = fit a.qr tt

  -- ---- the mean depth and the slope
  pub mean_least : pos 0 ≤ℤ m
  mean_least = le! (lit 0) (at m) (omega (arith, le? (lit 0) (at m ⊟ at d) a.left, le? (lit 0) (at m ⊞ at d) a.right))

  pub mean_most : m ≤ℤ deepest
  mean_most = le! (at m) (lit 262144)
      (omega (arith, le? (at m ⊟ at d) (lit 262144) a.left_most, le? (at m ⊞ at d) (lit 262144) a.right_most))

  pub mean_size : UpTo deepest m
  mean_size = b_nonneg mean_least mean_most

  pub slope_size : Within 131072 d
  slope_size = b_range
      (le! (⊖ (lit 131072)) (at d) (omega (arith, le? (lit 0) (at m ⊞ at d) a.right, le? (at m ⊟ at d) (lit 262144) a.left_most)))
      (le! (at d) (lit 131072) (omega (arith, le? (lit 0) (at m ⊟ at d) a.left, le? (at m ⊞ at d) (lit 262144) a.right_most)))

  -- the slope's size, taken from the mean and added to it, leaves a depth
  shallow : pos 0 ≤ℤ (m -ℤ pos (nat_abs d))
  shallow = let l = le? (lit 0) (at m ⊟ at d) a.left in let r = le? (lit 0) (at m ⊞ at d) a.right in
      le! (lit 0) (at m ⊟ lit (nat_abs d)) (⊎_elim (λ z. omega (arith, abs_parts d, r)) (λ z. omega (arith, abs_parts d, l)) (one_part d))

  deep : (m +ℤ pos (nat_abs d)) ≤ℤ deepest
  deep =
      let l = le? (at m ⊟ at d) (lit 262144) a.left_most in let r = le? (at m ⊞ at d) (lit 262144) a.right_most in
      le! (at m ⊞ lit (nat_abs d)) (lit 262144)
      (⊎_elim (λ z. omega (arith, abs_parts d, l)) (λ z. omega (arith, abs_parts d, r)) (one_part d))

  -- ---- two places nearer to the middle
  pub nearer : (e f : ℤ) → Within (nat_abs d) e → Within (nat_abs q) f → Around m e p f
  nearer e f w v =
      let k = lit (nat_abs d) in let low = le? (⊖ k) (at e) (range_b w).0 in let high = le? (at e) k (range_b w).1 in
      let x = le? (lit 0) (at m ⊟ k) shallow in let y = le? (at m ⊞ k) (lit 262144) deep in
      record {
        left = le! (lit 0) (at m ⊟ at e) (omega arith);
        left_most = le! (at m ⊟ at e) (lit 262144) (omega arith);
        right = le! (lit 0) (at m ⊞ at e) (omega arith);
        right_most = le! (at m ⊞ at e) (lit 262144) (omega arith);
        ql = record { abs = omega (arith, flow_sum p q a.ql a.qr, (b_sub (b_lit p) v).abs) };
        qr = record { abs = omega (arith, flow_sum p q a.ql a.qr, (b_add (b_lit p) v).abs) };
      }
