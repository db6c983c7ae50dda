-- The second depth is asked only where the first is in range.
use Rattle.std.specs.Prelude.{List, [], ◌∷◌, ℤ, pos}
use Rattle.std.proofs.Common.{sym, ap, ◌∙◌}
use Rattle.whole.specs.Machine.{v, ◌⊕◌, ◌⊝◌, Entry, value, sized}
use Rattle.rules.specs.Limits.{deepest}
use Rattle.rules.specs.Refusals.{outside}
use Rattle.reach.specs.Ranges.{UpTo}
use Rattle.finishing.specs.Depths.{widest_depth}
use Rattle.stage.proofs.cell.off_depths.Goals as goal

abbrev env : {m s : ℤ} → UpTo widest_depth m × UpTo widest_depth s → List Entry
env p = sized p.0 tt ∷ sized p.1 tt ∷ []

pub returns : goal.returns
returns c =
    let below = c.outside.ensures ∙ ap (λ (z : ℤ). outside (pos 0) deepest z) (value (env c.requires) (v 0 ⊝ v 1) tt) in
    rw (sym below ∙ c.if-outside.false)
    (c.outside-2.ensures ∙ ap (λ (z : ℤ). outside (pos 0) deepest z) (value (env c.requires) (v 0 ⊕ v 1) tt))
