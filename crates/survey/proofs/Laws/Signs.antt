-- What changes its sign with its argument, as every quotient here is cut toward nought; and what is the same either way.
-- Assumes nothing.
use Rattle.std.specs.Prelude.{◌≡◌, ◌||◌, ℤ, pos, neg_ℤ, ◌+ℤ◌, ◌*ℤ◌, ◌≤ℤ◌}
use Rattle.std.proofs.Common.{sym, ◌∙◌, ap, ap₂, arith}
use Rattle.std.proofs.Math.Bool.{or_comm}
use Rattle.std.proofs.Math.IntN.{neg_ℤ-neg_ℤ}
use Rattle.std.specs.Int.Signed.{quot_z, lt_z}
use Rattle.whole.specs.Flags.{by}
use Rattle.whole.specs.Parts.{of_le}
use Rattle.whole.specs.Difference.{at, lit, ◌⊞◌, ⊖, ◌⊠◌, le!, eq!, lt?, neg_add}
use Rattle.whole.specs.Quotient.{quot_odd}
use Rattle.whole.specs.Tests.{lt_yes, no_lt, lt_neg}
use Rattle.whole.specs.Choice.{size_neg}
use Rattle.rules.specs.Face.{speed}
use Rattle.rules.specs.Friction.{drag, slowed}
use Rattle.rules.specs.Stage.{share, carried}
use Rattle.rules.specs.Finishing.{beyond, clipped}
use Rattle.rules.specs.Step.{half}
use Rattle.rules.specs.Refusals.{past}
use Rattle.rules.proofs.Laws.Speeds.{speed_odd}

-- ---- the stage
pub share_odd : (a : ℤ) → share (neg_ℤ a) ≡ neg_ℤ (share a)
unfolding share
share_odd a = quot_odd (pos 37837 *ℤ a) (pos 65536) (eq! (lit 37837 ⊠ ⊖ (at a)) (⊖ (lit 37837 ⊠ at a)) (omega arith))

pub carried_even : (d q h : ℤ) → carried d (neg_ℤ q) h ≡ carried d q h
unfolding carried
carried_even d q h = let u = speed d q h in ap (λ (z : ℤ). quot_z z (pos 4096))
    (ap (λ (z : ℤ). neg_ℤ q *ℤ z) (speed_odd d q h) ∙ eq! (⊖ (at q) ⊠ ⊖ (at u)) (at q ⊠ at u) (omega arith))

pub half_odd : (a b : ℤ) → half (neg_ℤ a) (neg_ℤ b) ≡ neg_ℤ (half a b)
unfolding half
half_odd a b = quot_odd (a +ℤ b) (pos 2) (neg_add a b)

-- ---- friction
pub slowed_odd : (x q : ℤ) → slowed x (neg_ℤ q) ≡ neg_ℤ (slowed x q)
unfolding slowed
slowed_odd x q = quot_odd (q *ℤ (pos 65536 +ℤ x)) (pos 65536 +ℤ pos 2 *ℤ x)
    (eq! (⊖ (at q) ⊠ (lit 65536 ⊞ at x)) (⊖ (at q ⊠ (lit 65536 ⊞ at x))) (omega arith))

pub drag_even : (dt f h q d : ℤ) → drag dt f h (speed d (neg_ℤ q) h) ≡ drag dt f h (speed d q h)
unfolding drag
drag_even dt f h q d = rw (speed_odd d q h, size_neg (speed d q h))

-- ---- finishing: the cut, about a mean that is not below nought
lt_turn : (a b : ℤ) → lt_z a (neg_ℤ b) ≡ lt_z b (neg_ℤ a)
lt_turn a b = ap (λ (z : ℤ). lt_z z (neg_ℤ b)) (sym (neg_ℤ-neg_ℤ a)) ∙ lt_neg (neg_ℤ a) b

pub clipped_odd : (m x : ℤ) → pos 0 ≤ℤ m → clipped m (neg_ℤ x) ≡ neg_ℤ (clipped m x)
unfolding clipped
clipped_odd m x h = rw (lt_turn m x, lt_neg x m) (by (lt_z x (neg_ℤ m))
    (λ e. rw (e, no_lt m x (le! (at x) (at m) (omega (arith, of_le h, lt? (at x) (⊖ (at m)) (lt_yes x (neg_ℤ m) e)))))
    (sym (neg_ℤ-neg_ℤ m)))
    (λ e. rw e (by (lt_z m x) (λ d. rw d) (λ d. rw d))))

pub beyond_even : (m x : ℤ) → beyond m (neg_ℤ x) ≡ beyond m x
unfolding beyond
beyond_even m x = ap₂ ◌||◌ (lt_turn m x) (lt_neg x m) ∙ or_comm (lt_z x (neg_ℤ m)) (lt_z m x)

-- ---- the checks of speeds and discharges
pub past_even : (m x : ℤ) → past m (neg_ℤ x) ≡ past m x
past_even m x = ap (lt_z m) (size_neg x)
