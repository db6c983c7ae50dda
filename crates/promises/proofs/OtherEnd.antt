-- Calls from the other end: what a turned call gives, by what the call itself gave.
-- Assumes nothing.
use Rattle.std.specs.Prelude.{◌≡◌, refl, List, reverse, length, ℤ, pos, neg_ℤ, ◌+ℤ◌, ◌≤ℤ◌}
use Rattle.std.proofs.Common.{sym, ◌∙◌, ap, subst, arith}
use Prim.Native.Nat.{ℕ, suc, ◌+◌, ◌-◌, ◌*◌}
use Rattle.std.proofs.lemmas.List.{length-reverse}
use Rattle.std.specs.Int.Signed.{lt_z}
use Rattle.whole.specs.Flags.{by}
use Rattle.whole.specs.Parts.{Within, b_up}
use Rattle.whole.specs.Difference.{at, lit, nlit, ⊖, le!, le?, lt?, neg_add}
use Rattle.whole.specs.Tests.{lt_yes, lt_no}
use Rattle.whole.specs.Choice.{antisym}
use Rattle.tables.specs.Columns.{in_column}
use Rattle.tables.specs.Cells.{Cell, cell_in}
use Rattle.tables.proofs.Cells.{length_table, table_each}
use Rattle.rules.specs.Refusals.{early, off}
use Rattle.rules.specs.Lent.{Lent, Outcome, cells_of, reach_of, call_of, state_of, number, step_of}
use Rattle.rules.proofs.Laws.Verdicts.{clear_at}
use Rattle.rules.proofs.Laws.Order as order
use Rattle.rules.proofs.Laws.Lengths.{fits, unrefused, accepts}
use Rattle.rules.proofs.Laws.Runs.{accepted_early}
use Rattle.survey.specs.Turned.{turned_cell, turned_table, turned_call}
use Rattle.survey.proofs.Laws.Lent.{number_turned, filled_turned, left_volume, right_volume}
use Rattle.stage.specs.Ranges.{Ranged}
use Rattle.stage.specs.Laws.LentChecks.{grounds, ranged}
use Rattle.stage.specs.Laws.CellSizes.{cell_sizes}
use Rattle.step.specs.Gives.{Answer, code, volumes, both, Gives, answer, number_in, leaves}
use Rattle.promises.specs.Seen.{Besides, lending, Called, lent, Calls, none, more, least_i32, FitsI32, NoneLeast, FromOtherEnd}
use Rattle.promises.specs.ByChecks.{accepted_with}
use Rattle.promises.proofs.Outcomes.{taken}

-- an accepted call
pub other_gives : (l : Lent) (a : Answer) (w v : ℤ) (old new : List ℤ) → volumes a ≡ both w v → Gives (step_of l) a old new
    → (old' : List ℤ) → Gives (step_of (turned_call l)) (accepted_with (neg_ℤ v) (neg_ℤ w)) old' (turned_table (cells_of l) new)
unfolding code answer number_in leaves
other_gives l a w v old new e g old' =
    let t = taken l a w v old new e g in let ok = t.number in let fit = fits l ok in
    let is = sym (accepts (turned_call l) (number_turned l fit ∙ ok)) in
    let left = ap neg_ℤ t.right ∙ sym (left_volume l fit ok) in let right = ap neg_ℤ t.left ∙ sym (right_volume l fit ok) in
    record {
      says = (λ m. accepted_with (left m) (right m)) ∙ ap answer is;
      number = ap number_in is;
      table = ap (turned_table (cells_of l)) t.table ∙ sym (filled_turned l fit ok) ∙ ap (λ (o : Outcome). leaves o old') is;
    }

-- a run of them: each turned call is lent the turned table that the one before wrote, and a table to write that is as long
module _ {bed : List ℤ} {n dx : ℕ} {s : List ℤ} {a : Answer} {w v : ℤ} {old m : List ℤ} (e : volumes a ≡ both w v)
    (c : Called bed n dx s a old m) where
  abbrev g : Besides n
  g = c.given

  abbrev turned_besides : Besides n
  turned_besides = record {
    friction = reverse g.friction;
    cells = length-reverse g.friction ∙ g.cells;
    dt = g.dt;
    jump = g.jump;
    dry = g.dry;
    left = g.right;
    right = g.left;
  }

  -- which is lent so of k cells
  abbrev lent_of : ℕ → Lent
  lent_of k = lending (reverse bed) dx (turned_table k s) (length old) turned_besides

  abbrev other_call : Called (reverse bed) n dx (turned_table n s) (accepted_with (neg_ℤ v) (neg_ℤ w)) old (turned_table n m)
  other_call = record {
    given = turned_besides;
    gave = subst (λ (k : ℕ). Gives (step_of (lent_of k)) (accepted_with (neg_ℤ v) (neg_ℤ w)) old (turned_table k m)) g.cells
        (other_gives (lent c) a w v old m e c.gave old);
  }

  is_turned : lent other_call ≡ turned_call (lent c)
  is_turned = ap lent_of (sym g.cells)

pub other_run : {bed : List ℤ} {n dx : ℕ} {s t : List ℤ} {a b : ℤ} (k : Calls bed n dx s t a b) → FromOtherEnd k
unfolding volumes
other_run {n = n} (none t) = record {
  left = pos 0;
  right = pos 0;
  calls = none (turned_table n t);
  each = tt;
  left_is = refl;
  right_is = refl;
}
other_run {n = n} (more s m t old x w v a b e c k) = let rest = other_run k in record {
  left = neg_ℤ v +ℤ rest.left;
  right = neg_ℤ w +ℤ rest.right;
  calls = more (turned_table n s) (turned_table n m) (turned_table n t) old (accepted_with (neg_ℤ v) (neg_ℤ w))
      (neg_ℤ v) (neg_ℤ w) rest.left
      rest.right refl (other_call e c) rest.calls;
  each = (is_turned e c, rest.each);
  left_is = ap (λ (z : ℤ). neg_ℤ v +ℤ z) rest.left_is ∙ neg_add v b;
  right_is = ap (λ (z : ℤ). neg_ℤ w +ℤ z) rest.right_is ∙ neg_add w a;
}

-- ---- the turned table is one of i32
abbrev Word : ℤ → Type 0
Word z = (least_i32 ≤ℤ z) × (z ≤ℤ pos 2147483647)

opposite_word : (z : ℤ) → Word z → (z ≡ least_i32 → ⊥) → Word (neg_ℤ z)
opposite_word z w f = (
  le! (nlit 2147483647) (⊖ (at z)) (omega (arith, le? (at z) (lit 2147483647) w.1)),
  by (lt_z least_i32 z)
      (λ e. le! (⊖ (at z)) (lit 2147483647) (omega (arith, lt? (nlit 2147483647) (at z) (lt_yes least_i32 z e))))
      (λ e. absurd (f (antisym z least_i32 (lt_no least_i32 z e) w.0))),
)

module _ (n : ℕ) (t : List ℤ) (size : length t ≡ 4 * n) (words : FitsI32 t) (ok : NoneLeast t n) where
  abbrev cells : ℕ → Cell
  cells i = turned_cell (cell_in n t (n - suc i))

  pub turned_fits : FitsI32 (turned_table n t)
  unfolding turned_table
  turned_fits j l = table_each n cells Word (λ i b. let k = n - suc i in let turns = ok k (omega arith) in (
    words (0 * n + k) (omega arith),
    opposite_word (in_column n t 1 k) (words (1 * n + k) (omega arith)) turns.0,
    opposite_word (in_column n t 2 k) (words (2 * n + k) (omega arith)) turns.1,
    words (3 * n + k) (omega arith),
  )) j (omega (arith, length_table n cells))

-- a state that a call accepts is far from the least
module _ (l : Lent) (accepted : number l ≡ 0) where
  ranged_now : Ranged l.bed (cells_of l) (state_of l)
  unfolding early off
  ranged_now =
      let r = reach_of l in let c = call_of l in let s = state_of l in
      let clear = clear_at (early r c s) (accepted_early r c s (unrefused l accepted)) in
      ranged (cells_of l) l.bed s (grounds (cells_of l) l.bed (clear order.beds)) (clear order.state)

  above_least : (z : ℤ) → Within 2147483647 z → z ≡ least_i32 → ⊥
  above_least z w e = let far = (subst (Within 2147483647) e w).abs in omega (arith, far)

  pub accepted_none_least : NoneLeast l.now (cells_of l)
  accepted_none_least i b = let size = cell_sizes (ranged_now i b) in
      (above_least _ (b_up 2147483647 size.e1 tt), above_least _ (b_up 2147483647 size.q0 tt))
