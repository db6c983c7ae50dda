use mathlib.Core.Path.{subst}
use Prim.Native.Nat.{ℕ, ◌-◌, ◌^◌, ◌≤◌, ◌<◌}
use native.Mathlib.Omega.{arith}
use lib.Pow.{pow_pos}
use Rattle.digits.proofs.Turns.{start, again, lower, end}
use Rattle.digits.proofs.Places.{first_is, last_is, found}
use Rattle.digits.proofs.first_digits.Goals as goal

pub loop-t-init : goal.loop-t-init
loop-t-init c =
    let n = c.args.number in let turns = c.args.turns in
    start n turns (2 ^ (61 - turns)) (2 ^ 61) (first_is turns c.requires.places) (omega (arith, c.requires.pairs)) (omega arith)

-- a turn is made while its place is above the last
more : (c : goal.After-turn-t) → 2 ^ (61 - c.args.turns) < c.loop-t.t.bit
more c = subst (λ (x : ℕ). x < c.loop-t.t.bit) (last_is c.args.turns c.requires.places) c.loop-t-test.true

pub loop-t-smaller : goal.loop-t-smaller
loop-t-smaller c = lower c.turn-t.ensures (omega (arith, more c))

pub loop-t-preserved : goal.loop-t-preserved
loop-t-preserved c = again c.loop-t.invariant (more c) c.turn-t.ensures

pub returns : goal.returns
returns c =
    let turns = c.args.turns in
    let h : c.loop-t.t.bit ≤ 2 ^ (61 - turns) =
    subst (λ (x : ℕ). c.loop-t.t.bit ≤ x) (last_is turns c.requires.places) c.loop-t-test.false in
    found turns c.requires.places c.args.number c.loop-t.t.twice c.loop-t.t.rest (end c.loop-t.invariant (pow_pos (61 - turns)) h)
