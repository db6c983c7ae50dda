-- What the slope changes by is small enough to be worked out, and what is left of the slope fits.
use Rattle.std.specs.Prelude.{◌≡◌, List, [], ◌∷◌, get_or, ℤ, pos, ◌-ℤ◌}
use Rattle.std.proofs.Common.{◌∙◌, ap, sym, subst}
use Rattle.whole.specs.Parts.{b_up}
use Rattle.whole.specs.Machine.{X, v, k, ◌⊕◌, ◌⊝◌, ◌⊗◌, Entry, ideal, got, need, value, sized}
use Rattle.rules.specs.Limits.{fullest}
use Rattle.reach.specs.declared.Reach.{Reach}
use Rattle.reach.specs.declared.Call.{Call}
use Rattle.reach.specs.Ranges.{UpTo, Numbers}
use Rattle.stage.specs.declared.rows.FaceRow.{FaceRow}
use Rattle.stage.specs.Ranges.{most_turn, steepest_level, Row}
use Rattle.stage.specs.Laws.UpdateSizes.{slope_size}
use Rattle.stage.specs.Rows.{slope_of}
use Rattle.stage.proofs.update.level_slope.Goals as goal

module _ {e1 q0 : ℤ} {l f : FaceRow} (p : UpTo steepest_level e1 × UpTo fullest q0) (rows : Row l × Row f) where
  abbrev env : List Entry
  env = sized p.0 tt ∷ sized p.1 tt ∷ sized rows.0.F tt ∷ sized rows.1.F tt ∷ []

  abbrev change : X
  change = v 3 ⊕ v 2 ⊝ k (pos 2) ⊗ v 1

  -- the slope, and what it changes by
  abbrev both : {reach : Reach} {call : Call} {a : ℤ} → Numbers reach call → a ≡ slope_of (ideal env change) reach.dx call.dt → List Entry
  both num e =
      sized p.0 tt
      ∷ sized (subst (UpTo most_turn) (sym e) (slope_size _ _ _ (b_up 4365877248 (got env change tt).bound tt) num.dt_in)) tt ∷ []

pub overflow_sub-result : goal.overflow_sub-result
overflow_sub-result c =
    let p = c.requires in let changed = rw (value (env p.up_to p.row) (change p.up_to p.row) tt) at c.slope_change.ensures in
    need (both p.up_to p.row p.numbers changed) (v 0 ⊝ v 1) tt

pub returns : goal.returns
returns c =
    let p = c.requires in let changed = rw (value (env p.up_to p.row) (change p.up_to p.row) tt) at c.slope_change.ensures in
    value (both p.up_to p.row p.numbers changed) (v 0 ⊝ v 1) tt ∙ ap (λ (z : ℤ). get_or c.args.x 1 (pos 0) -ℤ z) changed
