-- The lengths and the numbers are checked in their order; the step on tables says the rest.
use Rattle.std.specs.Prelude.{◌≡◌, refl, false, List, ℕ, ◌*◌, get_or, length, ℤ, pos}
use Rattle.std.proofs.Common.{sym, ◌∙◌, ap, arith}
use Rattle.rules.specs.Lent.{misfit}
use Rattle.rules.specs.Refusals.{bad_call}
use Rattle.rules.proofs.Laws.Lengths.{fitted}
use Rattle.reach.specs.declared.Reach.{Reach}
use Rattle.reach.specs.declared.Call.{Call}
use Rattle.reach.specs.Told.{reach_in, call_on}
use Rattle.stage.specs.Ranges.{InOrder}
use Rattle.stage.specs.Laws.LentNumber.{numbers, length_found, call_found, later_checks}
use Rattle.stage.proofs.worked.work.Goals as goal

-- the lent friction
abbrev rough : List ℕ → ℕ → ℤ
rough friction i = pos (get_or friction i 0)

-- what passed checks 1 and 2 is in order, and the tables fit it
in_order : (reach : Reach) (call : Call) (bed : List ℤ) (friction : List ℕ) {state next : ℕ} → reach.n ≡ length friction
    → misfit state next (length bed) (length friction) ≡ false → bad_call (reach_in reach bed) (call_on call (rough friction)) ≡ false
    → InOrder reach call bed × (state ≡ 4 * reach.n) × (next ≡ 4 * reach.n) × (length friction ≡ reach.n)
in_order reach call bed friction {state} {next} n e b = let fit = fitted state next (length bed) (length friction) e in (
  record {
    some = omega (arith, fit.some, n);
    most = omega (arith, fit.most, n);
    beds = omega (arith, fit.beds, n);
    numbers = numbers reach call bed (rough friction) b;
  },
  omega (arith, fit.now, n),
  omega (arith, fit.next, n),
  sym n,
)

pub returns-then-bad_lengths : goal.returns-then-bad_lengths
returns-then-bad_lengths c = let p = c.args in rw c.into.ensures record {
  found = length_found p.state.now (length p.next.now) p.bed.now p.friction.now p.given
      (sym c.bad_lengths.ensures ∙ c.if-bad_lengths.true);
  some = omega arith;
  kept = refl;
}

pub returns-then-bad_numbers : goal.returns-then-bad_numbers
returns-then-bad_numbers c =
    let p = c.args in
    let judged = rw (c.reach_by-reach.ensures, c.call_by-call.ensures) at (c.bad_numbers.ensures p.bed.now (rough p.friction.now)) in rw c.into-then-bad_numbers.ensures record {
      found = call_found p.state.now (length p.next.now) p.bed.now p.friction.now p.given
          (sym c.bad_lengths.ensures ∙ c.if-bad_lengths.false) (sym judged ∙ c.if-bad_numbers.true);
      some = omega arith;
      kept = refl;
    }

pub on_own_tables-requires-clause-in_order : goal.on_own_tables-requires-clause-in_order
on_own_tables-requires-clause-in_order c =
    let p = c.args in
    in_order _ _ p.bed.now p.friction.now (ap (λ (r : Reach). r.n) c.reach_by-reach.ensures)
    (sym c.bad_lengths.ensures ∙ c.if-bad_lengths.false)
    (sym (c.bad_numbers.ensures p.bed.now (rough p.friction.now)) ∙ c.if-bad_numbers.false)

pub returns-then-n-le-SHORT_CELLS : goal.returns-then-n-le-SHORT_CELLS
returns-then-n-le-SHORT_CELLS c =
    let p = c.args in
    let judged = rw (c.reach_by-reach.ensures, c.call_by-call.ensures) at (c.bad_numbers.ensures p.bed.now (rough p.friction.now)) in
    rw (later_checks p.state.now (length p.next.now) p.bed.now p.friction.now p.given
    (sym c.bad_lengths.ensures ∙ c.if-bad_lengths.false) (sym judged ∙ c.if-bad_numbers.false))
    (rw (c.reach_by-reach.ensures, c.call_by-call.ensures) at c.on_own_tables.ensures)

pub on_own_tables-requires-2-clause-in_order : goal.on_own_tables-requires-2-clause-in_order
on_own_tables-requires-2-clause-in_order c =
    let p = c.args in
    in_order _ _ p.bed.now p.friction.now (ap (λ (r : Reach). r.n) c.reach_by-reach.ensures)
    (sym c.bad_lengths.ensures ∙ c.if-bad_lengths.false)
    (sym (c.bad_numbers.ensures p.bed.now (rough p.friction.now)) ∙ c.if-bad_numbers.false)

pub on_own_tables-requires-2-clause-room : goal.on_own_tables-requires-2-clause-room
on_own_tables-requires-2-clause-room c =
    let p = c.args in let n = ap (λ (r : Reach). r.n) c.reach_by-reach.ensures in
    let fit = fitted (length p.state.now) (length p.next.now) (length p.bed.now) (length p.friction.now)
    (sym c.bad_lengths.ensures ∙ c.if-bad_lengths.false) in
    omega (arith, fit.most, n)

pub returns : goal.returns
returns c =
    let p = c.args in
    let judged = rw (c.reach_by-reach.ensures, c.call_by-call.ensures) at (c.bad_numbers.ensures p.bed.now (rough p.friction.now)) in
    rw (later_checks p.state.now (length p.next.now) p.bed.now p.friction.now p.given
    (sym c.bad_lengths.ensures ∙ c.if-bad_lengths.false) (sym judged ∙ c.if-bad_numbers.false))
    (rw (c.reach_by-reach.ensures, c.call_by-call.ensures) at c.on_own_tables-2.ensures)
