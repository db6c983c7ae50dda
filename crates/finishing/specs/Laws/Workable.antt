-- What can be finished, by the ranges of its numbers.
-- Assumes nothing.
use Rattle.std.specs.Prelude.{◌≡◌, Bool, false, List, ℕ, ◌+◌, ◌≤◌, eqb, length, ℤ, pos, nat_abs, ◌≤ℤ◌}
use borrow.Author.Tests.{eq-eqb, le-ltb, eqb-true, ltb-false}
use Rattle.whole.specs.Flags.{or_l, or_r, not_f}
use Rattle.whole.specs.Parts.{Within, b_nonneg, range_b}
use Rattle.whole.specs.Choice.{not_beyond, within_past}
use Rattle.tables.proofs.Some.{some_none, none_some}
use Rattle.tables.specs.Cells.{Cell, seen}
use Rattle.rules.specs.Limits.{most_cells, highest_bed, largest_jump}
use Rattle.rules.specs.Reach.{Bed, bed_at}
use Rattle.rules.specs.Refusals.{any, past}
use Rattle.rules.proofs.Laws.Accept.{none_at}
use Rattle.rules.proofs.Laws.Inside.{above_least, below_most, not_outside}
use Rattle.reach.specs.declared.Reach.{Reach}
use Rattle.reach.specs.declared.Call.{Call}
use Rattle.reach.specs.Ranges.{UpTo, widest, DryDepth, Unfinished, AllUnfinished}
use Rattle.reach.specs.Laws.DryList.{in_list, not_bad}
use Rattle.finishing.specs.Unfit.{either_past, too_large, hindrances, unfit}

-- ---- two numbers within a limit
both_in : (most : ℕ) (x y : ℤ) → either_past (pos most) x y ≡ false → Within most x × Within most y
unfolding either_past
both_in most x y e =
    let p = past (pos most) x in let q = past (pos most) y in
    (within_past most x (or_l p q e), within_past most y (or_r p q e))

in_both : {most : ℕ} {x y : ℤ} → Within most x → Within most y → either_past (pos most) x y ≡ false
unfolding either_past
in_both {most} {x} {y} v w = rw (not_beyond most x v, not_beyond most y w)

-- ---- a cell over its bed
module _ (b : Bed) (x : Cell) where
  small_enough : too_large b x ≡ false → Unfinished b x
  unfolding too_large
  small_enough e =
      let none = none_at _ e in
      let bed = both_in (nat_abs highest_bed) b.zl b.zr (none 0) in
      let level = both_in (nat_abs widest) x.e0 x.e1 (none 1) in
      let flow = both_in (nat_abs widest) x.q0 x.q1 (none 2) in
      record {
        grounded = record { zl = bed.0; zr = bed.1 };
        wide = record { e0 = level.0; e1 = level.1; q0 = flow.0; q1 = flow.1 };
      }

  not_large : Unfinished b x → too_large b x ≡ false
  unfolding too_large any
  not_large r = let g = r.grounded in let w = r.wide in rw (in_both g.zl g.zr, in_both w.e0 w.e1, in_both w.q0 w.q1)

-- ---- a table, and one with that much room to finish it in
pub record Workable (reach : Reach) (call : Call) (bed : List ℤ) (u : List (List ℤ)) (room : ℕ) : Type 0 where
  pub lent : reach.n ≤ length u
  pub placed : reach.n ≤ room
  pub most : reach.n ≤ most_cells
  pub beds : length bed ≡ reach.n + 1
  pub jump_pos : pos 0 ≤ℤ call.jump
  pub jump_in : UpTo largest_jump call.jump
  pub dry : DryDepth call.dry
  pub cells : AllUnfinished bed reach.n (seen u)

module _ (reach : Reach) (call : Call) (bed : List ℤ) (u : List (List ℤ)) (room : ℕ) where
  abbrev large : ℕ → Bool
  large i = too_large (bed_at bed i) (seen u i)

  pub fit_works : unfit reach call bed u room ≡ false → Workable reach call bed u room
  unfolding unfit
  fit_works e =
      let n = reach.n in let jump = call.jump in
      let none = none_at (hindrances reach call bed u room) e in
      let low = above_least (pos 0) largest_jump jump (none 4) in let high = below_most (pos 0) largest_jump jump (none 4) in
      record {
        lent = ltb-false (length u) n (none 0);
        placed = ltb-false room n (none 1);
        most = ltb-false most_cells n (none 2);
        beds = eqb-true (length bed) (n + 1) (not_f (eqb (length bed) (n + 1)) (none 3));
        jump_pos = low;
        jump_in = b_nonneg low high;
        dry = in_list call.dry (none 5);
        cells = λ i l. small_enough (bed_at bed i) (seen u i) (some_none large n (none 6) i l);
      }

  pub works_fit : Workable reach call bed u room → unfit reach call bed u room ≡ false
  unfolding unfit any
  works_fit w =
      rw (
        le-ltb (length u) reach.n w.lent,
        le-ltb room reach.n w.placed,
        le-ltb most_cells reach.n w.most,
        eq-eqb (length bed) (reach.n + 1) w.beds,
        not_outside (pos 0) largest_jump call.jump w.jump_pos (range_b w.jump_in).1,
        not_bad call.dry w.dry,
        none_some large reach.n (λ i l. not_large (bed_at bed i) (seen u i) (w.cells i l)),
      )
