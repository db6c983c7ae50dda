-- The water balances: the sum of the mean depths changes by W at the two ends. Nothing of the face rule is used.
-- Assumes nothing.
use Rattle.std.specs.Prelude.{◌≡◌, ℕ, zero, suc, ℤ, pos, ◌+ℤ◌, ◌-ℤ◌}
use Rattle.std.proofs.Common.{◌∙◌, ap, arith}
use Rattle.std.specs.Int.Signed.{quot_z}
use Rattle.whole.specs.Difference.{at, lit, ◌⊞◌, ◌⊟◌, ◌⊠◌, eq! }
use Rattle.rules.specs.Reach.{Reach, Call, State, under, z0, h0}
use Rattle.rules.specs.Finishing.{limit, cut, dried, finish}
use Rattle.rules.specs.Step.{rubbed, rubbed_cell, half, carry, joined_cell, joined, next}
use Rattle.rules.proofs.Laws.Telescope.{sum, sum_same, telescope}
use Rattle.rules.proofs.Laws.EvenBed.{twice}
use Rattle.rules.specs.Laws.Agree.{Same}

-- half of twice a number is that number
pub half_same : (a : ℤ) → half a a ≡ a
unfolding half
half_same a = ap (λ (z : ℤ). quot_z z (pos 2)) (eq! (at a ⊞ at a) (at a ⊠ lit 2) (omega arith)) ∙ twice a

-- the water in a reach: the sum of its mean depths, in depths over one cell
unfoldable pub water : Reach → State → ℤ
water r s = sum (λ i. h0 (under r i) (s i)) r.n

pub water_same : (r : Reach) (s t : State) → Same r t s → water r t ≡ water r s
unfolding water
water_same r s t e = sum_same (λ i. h0 (under r i) (t i)) (λ i. h0 (under r i) (s i)) r.n (λ i l. ap (h0 (under r i)) (e i l))

next_depth : (r : Reach) (c : Call) (s : State) (i : ℕ)
    → h0 (under r i) (next r c s i) ≡ h0 (under r i) (s i) +ℤ carry r c s i -ℤ carry r c s (suc i)
unfolding next finish dried cut limit joined joined_cell rubbed rubbed_cell h0
next_depth r c s i = let e = (s i).e0 in let a = carry r c s i in let b = carry r c s (suc i) in let z = z0 (under r i) in
    eq! (at e ⊞ at a ⊟ at b ⊟ at z) (at e ⊟ at z ⊞ at a ⊟ at b) (omega arith)

pub balanced : (r : Reach) (c : Call) (s : State) → water r (next r c s) ≡ water r s +ℤ carry r c s zero -ℤ carry r c s r.n
unfolding water
balanced r c s = telescope (λ i. h0 (under r i) (s i)) (λ i. h0 (under r i) (next r c s i)) (carry r c s) (next_depth r c s) r.n
