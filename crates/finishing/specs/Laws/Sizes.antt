-- What finishing keeps of a cell: a limited slope is no larger, and a cut one stays in range.
-- Assumes nothing.
use Rattle.std.specs.Prelude.{Bool, cond, ◌&&◌, List, ℕ, zero, suc, ◌<◌, eqb, ℤ, pos, neg_ℤ, ◌-ℤ◌, ◌≤ℤ◌, ◌<ℤ◌}
use Rattle.std.proofs.Common.{arith}
use Rattle.std.specs.Int.Signed.{le_z, lt_z}
use Rattle.whole.specs.Flags.{cond_ind, and_r}
use Rattle.whole.specs.Parts.{Within, b_add, b_sub, b_neg, b_nonneg, b_range, range_b, lt_le, le_trans, nat_nonneg}
use Rattle.whole.specs.Quotient.{b_quot_by}
use Rattle.whole.specs.Choice.{min_z, max_z}
use Rattle.whole.specs.Tests.{le_yes, le_no, lt_yes}
use Rattle.tables.specs.Cells.{Cell, seen}
use Rattle.tables.proofs.Cells.{of_each}
use Rattle.rules.specs.Limits.{highest_bed}
use Rattle.rules.specs.Reach.{Reach, Call, State, Bed, z0, z1, h0, h1}
use Rattle.rules.specs.Finishing.{minmod, with_right, with_left, limited, is_limited, limit, clipped}
use Rattle.reach.specs.Ranges.{UpTo, widest, Ground, Wide, Unfinished}
use Rattle.finishing.specs.NumberOf.{number_of}
use Rattle.finishing.specs.Depths.{widest_depth}

-- a number of a wide cell
pub wide_at : (u : List (List ℤ)) (m i : ℕ) → m < 4 → Wide (seen u i) → UpTo widest (number_of u m i)
wide_at u m i h w = of_each (λ k. UpTo widest (number_of u k i)) w.e0 w.e1 w.q0 w.q1 m h

-- ---- what is nearest nought is no larger than the first
minmod_size : {A : ℕ} (a b : ℤ) → Within A a → Within A (minmod a b)
unfolding minmod min_z max_z
minmod_size {A} a b w =
    cond_ind (lt_z (pos 0) a && lt_z (pos 0) b) (min_z a b) (cond (lt_z a (pos 0) && lt_z b (pos 0)) (max_z a b) (pos 0)) (Within A)
    (λ e. cond_ind (le_z a b) a b (Within A) (λ f. w)
    (λ f. above (lt_yes (pos 0) b (and_r (lt_z (pos 0) a) (lt_z (pos 0) b) e)) (lt_le (le_no a b f))))
    (λ d. cond_ind (lt_z a (pos 0) && lt_z b (pos 0)) (max_z a b) (pos 0) (Within A)
    (λ e. cond_ind (le_z a b) b a (Within A)
    (λ f. below (lt_yes b (pos 0) (and_r (lt_z a (pos 0)) (lt_z b (pos 0)) e)) (le_yes a b f)) (λ f. w))
    (λ e. record { abs = omega arith }))
  where
    above : pos 0 <ℤ b → b ≤ℤ a → Within A b
    above p q = b_nonneg (lt_le p) (le_trans q (range_b w).1)

    below : b <ℤ pos 0 → a ≤ℤ b → Within A b
    below p q = b_range (le_trans (range_b w).0 q) (le_trans (lt_le p) (nat_nonneg A))

with_right_size : {A : ℕ} (r : Reach) (m : ℕ → ℤ) (i : ℕ) (x : ℤ) → Within A x → Within A (with_right r m i x)
unfolding with_right
with_right_size {A} r m i x w =
    cond_ind (eqb (suc i) r.n) x (minmod x (m (suc i) -ℤ m i)) (Within A) (λ e. w) (λ e. minmod_size x (m (suc i) -ℤ m i) w)

with_left_size : {A : ℕ} (m : ℕ → ℤ) (i : ℕ) (x : ℤ) → Within A x → Within A (with_left m i x)
unfolding with_left
with_left_size m zero x w = w
with_left_size m (suc i) x w = minmod_size x (m (suc i) -ℤ m i) w

pub limited_size : {A : ℕ} (r : Reach) (m : ℕ → ℤ) (i : ℕ) (x : ℤ) → Within A x → Within A (limited r m i x)
unfolding limited
limited_size r m i x w = with_left_size m i (with_right r m i x) (with_right_size r m i x w)

-- so a slope is no larger after the limiter, whether it was limited or not, and a cell as wide
pub limited_or_not : {A : ℕ} (b : Bool) (r : Reach) (m : ℕ → ℤ) (i : ℕ) (x : ℤ) → Within A x → Within A (cond b (limited r m i x) x)
limited_or_not {A} b r m i x w = cond_ind b (limited r m i x) x (Within A) (λ e. limited_size r m i x w) (λ e. w)

pub limit_wide : (r : Reach) (c : Call) (s : State) (i : ℕ) → Wide (s i) → Wide (limit r c s i)
unfolding limit
limit_wide r c s i w = record {
  e0 = w.e0;
  e1 = limited_or_not (is_limited r c s i) r (λ j. (s j).e0) i (s i).e1 w.e1;
  q0 = w.q0;
  q1 = limited_or_not (is_limited r c s i) r (λ j. (s j).q0) i (s i).q1 w.q1;
}

-- ---- the mean and the slope of a bed, and of the depth of an unfinished cell over it
pub z0_size : (b : Bed) → Ground b → UpTo highest_bed (z0 b)
unfolding z0
z0_size b g = b_quot_by (pos 2) (b_add g.zl g.zr)

pub z1_size : (b : Bed) → Ground b → UpTo highest_bed (z1 b)
unfolding z1
z1_size b g = b_quot_by (pos 2) (b_sub g.zr g.zl)

pub h0_size : (b : Bed) (x : Cell) → Unfinished b x → UpTo widest_depth (h0 b x)
unfolding h0
h0_size b x u = b_sub u.wide.e0 (z0_size b u.grounded)

pub h1_size : (b : Bed) (x : Cell) → Unfinished b x → UpTo widest_depth (h1 b x)
unfolding h1
h1_size b x u = b_sub u.wide.e1 (z1_size b u.grounded)

pub clip_size : {A : ℕ} (m x : ℤ) → Within A m → Within A x → Within A (clipped m x)
unfolding clipped
clip_size {A} m x p q =
    cond_ind (lt_z m x) m (cond (lt_z x (neg_ℤ m)) (neg_ℤ m) x) (Within A) (λ e. p)
    (λ e. cond_ind (lt_z x (neg_ℤ m)) (neg_ℤ m) x (Within A) (λ f. b_neg p) (λ f. q))
