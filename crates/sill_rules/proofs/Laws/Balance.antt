-- The water balances: the sum of the depths changes by V at the two ends. Nothing of the face rule is used.
-- Assumes nothing.
use Rattle.std.specs.Prelude.{◌≡◌, ℕ, zero, suc, ℤ, ◌+ℤ◌, ◌-ℤ◌}
use Rattle.std.proofs.Common.{ap, arith}
use Rattle.whole.specs.Difference.{at, ◌⊞◌, ◌⊟◌, eq! }
use Rattle.rules.specs.Shown.{cross_at}
use Rattle.rules.proofs.Laws.Telescope.{sum, sum_same, telescope}
use Rattle.sill_rules.specs.Reach.{Reach, Call, State, depth}
use Rattle.sill_rules.specs.Step.{rubbed_pool, rubbed, update, stage, dried_pool, dried, next, carry}
use Rattle.sill_rules.proofs.Laws.Agree.{Same}

-- the depths of a state, and the water in a reach: their sum, in depths over one cell
abbrev depths : Reach → State → ℕ → ℤ
depths r s i = depth (r.bed i) (s i)

unfoldable pub water : Reach → State → ℤ
water r s = sum (depths r s) r.n

pub water_same : (r : Reach) (s t : State) → Same r t s → water r t ≡ water r s
unfolding water
water_same r s t e = sum_same (depths r t) (depths r s) r.n (λ i l. ap (depth (r.bed i)) (e i l))

next_depth : (r : Reach) (c : Call) (s : State) (i : ℕ) → depths r (next r c s) i ≡ depths r s i +ℤ carry r c s i -ℤ carry r c s (suc i)
unfolding next dried dried_pool stage update rubbed rubbed_pool carry depth cross_at
next_depth r c s i = let e = (s i).e in let a = carry r c s i in let b = carry r c s (suc i) in let z = r.bed i in
    eq! (at e ⊞ at a ⊟ at b ⊟ at z) (at e ⊟ at z ⊞ at a ⊟ at b) (omega arith)

pub balanced : (r : Reach) (c : Call) (s : State) → water r (next r c s) ≡ water r s +ℤ carry r c s zero -ℤ carry r c s r.n
unfolding water
balanced r c s = telescope (depths r s) (depths r (next r c s)) (carry r c s) (next_depth r c s) r.n
