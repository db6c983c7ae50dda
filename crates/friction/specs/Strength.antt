-- How strongly friction can act, where the speed has been checked: at most 21,438,427,962.
-- Assumes nothing.
use Rattle.std.proofs.Common.{arith}
use Rattle.std.specs.Prelude.{ℤ, pos, ◌+ℤ◌, ◌*ℤ◌, ◌≤ℤ◌, ◌<ℤ◌}
use Rattle.whole.specs.Parts.{b_add, b_mul, b_lit, b_up, b_nonneg, cross, le_lit, le_trans}
use Rattle.whole.specs.Parts.{lt_le, le_lt_trans, lt_le_trans, lt_suc, nat_nonneg}
use Rattle.whole.specs.Difference.{lit, nonneg, ◌⊠◌, le!, le?}
use Rattle.whole.specs.Quotient.{b_quot_ge}
use Rattle.whole.specs.Choice.{size_z, b_size}
use Rattle.rules.specs.Limits.{least_dry, deepest, fullest, fastest, roughest, longest_step}
use Rattle.rules.specs.Friction.{cube, drag}
use Rattle.rules.proofs.Laws.Speeds.{cube_least}
use Rattle.reach.specs.Ranges.{UpTo}
use Rattle.friction.specs.declared.strength.Rubbing.{Rubbing}
use Rattle.friction.specs.Given.{strongest}

-- a time step, a bed and a depth within the limits
pub record Ranged (at : Rubbing) : Type 0 where
  pub step : (pos 0 ≤ℤ at.dt) × UpTo longest_step at.dt
  pub rough : (pos 0 ≤ℤ at.rough) × UpTo roughest at.rough
  pub wet : (least_dry <ℤ at.h) × (at.h ≤ℤ deepest)

-- what friction divides: for its strength, which is the largest product of the step, and for what it leaves of a discharge
abbrev pub largest_product : ℤ
largest_product = pos 5393104534241280000

abbrev pub most_slowed : ℤ
most_slowed = pos 179839118065270784

-- what it divides for its strength, where the speed has been checked, at any depth
pub dividend_size : (dt f u : ℤ) → UpTo longest_step dt → UpTo roughest f → UpTo fastest u
    → UpTo largest_product (pos 256 *ℤ pos 981 *ℤ dt *ℤ (f *ℤ f) *ℤ size_z u)
dividend_size dt f u p q r = b_mul (b_mul (b_mul (b_lit (pos 256 *ℤ pos 981)) p) (b_mul q q)) (b_size u r)

-- ---- of water that is not dry, at any dry depth
module _ (h : ℤ) (low : least_dry <ℤ h) (high : h ≤ℤ deepest) where
  pub wet : pos 0 <ℤ h
  wet = le_lt_trans (le_lit (pos 0) least_dry tt) low

  pub wet_size : UpTo deepest h
  wet_size = b_nonneg (lt_le wet) high

  -- the divisor: at least 390,625 times the least depth, 2, times its cube-root number, no less than 322
  divisor_least : pos 251562500 ≤ℤ (pos 390625 *ℤ h *ℤ cube h)
  divisor_least =
      let c : pos 322 ≤ℤ cube h = cube_least h low wet_size in
      let x = nonneg (lt_le wet) in let y = nonneg (le_trans (nat_nonneg 322) c) in
      le! (lit 251562500) (lit 390625 ⊠ x ⊠ y)
      (omega (arith, cross (le? (lit 2) x (lt_suc low)) (le? (lit 322) y c), le? (lit 2) x (lt_suc low), le? (lit 322) y c))

  pub divisor_pos : pos 0 <ℤ (pos 390625 *ℤ h *ℤ cube h)
  divisor_pos = lt_le_trans (record { lt = tt }) divisor_least

  pub drag_most : (dt f u : ℤ) → UpTo longest_step dt → UpTo roughest f → UpTo fastest u → UpTo strongest (drag dt f h u)
  unfolding drag
  drag_most dt f u p q r = b_up 21438427962 (b_quot_ge 251562499 (dividend_size dt f u p q r) divisor_least) tt

-- and what it divides for what it leaves of a discharge
pub slowed_product : (x q : ℤ) → UpTo strongest x → UpTo fullest q → UpTo most_slowed (q *ℤ (pos 65536 +ℤ x))
slowed_product x q p r = b_mul r (b_add (b_lit (pos 65536)) p)
