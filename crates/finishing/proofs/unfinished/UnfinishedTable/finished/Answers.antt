-- A cell is limited, cut and dried in turn; the means it is limited against are the unfinished ones.
use Rattle.std.proofs.Common.{◌≡◌, sym, ◌∙◌, subst, List, ℕ, ℤ, pos, arith}
use Rattle.whole.specs.Machine.{back}
use Rattle.tables.specs.Cells.{as_cell, as_list}
use Rattle.rules.specs.Reach.{bed_at}
use Rattle.rules.specs.Finishing.{limit, cut, dried, finish}
use Rattle.reach.specs.declared.bed.Bed.{Bed}
use Rattle.reach.specs.Told.{bed_in}
use Rattle.reach.specs.Ranges.{UpTo, widest, Ground, Wide, Unfinished}
use Rattle.finishing.specs.declared.unfinished.UnfinishedTable.{UnfinishedTable}
use Rattle.finishing.specs.UnfinishedTable.{reach_of, call_of, state_of, HasCell}
use Rattle.finishing.specs.Laws.Sizes.{limit_wide}
use Rattle.finishing.proofs.unfinished.UnfinishedTable.finished.Goals as goal

-- the bed of the cell, and the cell as the limiter leaves it, of which any friction tells
limited : (u : UnfinishedTable) (i : ℕ) (b : Bed) (x : List ℤ) → HasCell u i → bed_in b ≡ bed_at u.bed.now i
    → ((ρ : ℕ → ℤ) → x ≡ as_list (limit (reach_of u) (call_of u ρ) (state_of u) i)) → Unfinished (bed_in b) (as_cell x)
limited u i b x has under told =
    let smooth : ℕ → ℤ = λ j. pos 0 in let t = has.row in record {
      grounded = subst Ground (sym under) (has.grounds i t.below);
      wide = subst (λ (l : List ℤ). Wide (as_cell l)) (sym (told smooth))
          (limit_wide (reach_of u) (call_of u smooth) (state_of u) i (t.wide i t.below));
    }

pub cut_cell-cut-requires : goal.cut_cell-cut-requires
cut_cell-cut-requires c = limited c.args.self c.args.i c.under-b.result c.limit.result c.requires c.under-b.ensures c.limit.ensures

pub dried_cell-requires : goal.dried_cell-requires
unfolding cut
dried_cell-requires c =
    let w = limited c.args.self c.args.i c.under-b.result c.limit.result c.requires c.under-b.ensures c.limit.ensures in
    (w.grounded, subst (λ (x : List ℤ). UpTo widest (as_cell x).e0) (sym c.cut_cell-cut.ensures) w.wide.e0)

pub returns : goal.returns
unfolding finish
returns c =
    let dry = c.args.self.call.dry in let read = back {z = dry} (omega arith) in
    λ ρ. c.dried_cell.ensures
    ∙ (λ x. as_list (dried (read x) (bed_in c.under-b.result) (as_cell (c.cut_cell-cut.ensures x))))
    ∙ (λ x. as_list (dried dry (c.under-b.ensures x) (cut (c.under-b.ensures x) (as_cell (c.limit.ensures ρ x)))))
