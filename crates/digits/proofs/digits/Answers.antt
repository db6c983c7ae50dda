-- `digits` has none beyond its limits. Within them it raises the number, and asks for a digit for each pair of it and its noughts.
use Prim.Native.Nat.{◌≤◌}
use native.Mathlib.Omega.{arith}
use lib.Count.{count_leading_zeros}
use Rattle.digits.specs.Root.{Fits, within, beyond}
use Rattle.digits.proofs.Places.{zeros_in, raised, shifted, all_pairs}
use Rattle.digits.proofs.digits.Goals as goal
use Rattle.digits.proofs.digits.Goals.{then-number-ge-BEYOND-via-then-number-ge-BEYOND}
use Rattle.digits.proofs.digits.Goals.{then-number-ge-BEYOND-via-else-number-ge-BEYOND+then-noughts-gt-MOST_NOUGHTS}

pub returns-then-number-ge-BEYOND : goal.returns-then-number-ge-BEYOND
returns-then-number-ge-BEYOND c = elim c.then-number-ge-BEYOND.branch [
  | then-number-ge-BEYOND-via-then-number-ge-BEYOND w ↦ beyond (λ f. omega (arith, f.pairs, w.if-number-ge-BEYOND.true))
  | then-number-ge-BEYOND-via-else-number-ge-BEYOND+then-noughts-gt-MOST_NOUGHTS w ↦
      beyond (λ f. omega (arith, f.behind, w.if-noughts-gt-MOST_NOUGHTS.true))
]

-- ---- within the limits
fits : (c : goal.Else-noughts-gt-MOST_NOUGHTS) → Fits c.args.number c.args.noughts
fits c = record { pairs = c.if-number-ge-BEYOND.false; behind = c.if-noughts-gt-MOST_NOUGHTS.false }

zeros : (c : goal.Else-noughts-gt-MOST_NOUGHTS) → let z = count_leading_zeros 64 c.args.number in (2 ≤ z) × (z ≤ 64)
zeros c = zeros_in c.args.number (fits c).pairs

pub overflow_sub-above : goal.overflow_sub-above
overflow_sub-above c = omega (arith, zeros c)

pub first_digits-requires : goal.first_digits-requires
first_digits-requires c = let n = c.args.number in let f = fits c in
    record { pairs = omega (arith, shifted n f.pairs, raised n f.pairs); places = omega (arith, zeros c, f.behind) }

pub returns : goal.returns
returns c =
    let p = c.args in let l = (fits c.before).pairs in
    within (fits c.before) (rw (shifted p.number l, all_pairs p.number l p.noughts) at c.first_digits.ensures)
