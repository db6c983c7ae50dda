use Rattle.std.proofs.Common.{◌∙◌, ap₂, List, [], ◌∷◌, ℕ, ℤ, suc, ◌<◌, add-one}
use Rattle.std.proofs.lemmas.Int.{to_z-of_z}
use Rattle.std.specs.Int.{w64}
use Rattle.whole.specs.Parts.{fit}
use Rattle.whole.specs.Machine.{v, ◌⊝◌, Entry, entry, need, value, back64}
use Rattle.rules.specs.Finishing.{minmod}
use Rattle.finishing.specs.InTable.{Neighbours}
use Rattle.finishing.specs.Laws.Sizes.{wide_at}
use Rattle.finishing.proofs.unfinished.UnfinishedTable.against.Goals as goal

-- the means of the next cell and of cell i
abbrev means : (u : List (List ℤ)) (m i : ℕ) → Neighbours u i → m < 4 → List Entry
means u m i both h =
    let next = wide_at u m (suc i) h both.right in
    let here = wide_at u m i h both.left in
    entry (fit next tt) next ∷ entry (fit here tt) here ∷ []

pub overflow_sub-self : goal.overflow_sub-self
overflow_sub-self c = rw (add-one c.args.i) (need (means c.args.self.cells.now c.args.m c.args.i c.requires.0 c.requires.1) (v 0 ⊝ v 1) tt)

pub returns : goal.returns
returns c =
    let p = c.args in let rise = value (means p.self.cells.now p.m p.i c.requires.0 c.requires.1) (v 0 ⊝ v 1) tt in
    back64 c.nearest.type_inv (c.nearest.ensures ∙ ap₂ minmod (to_z-of_z w64 p.slope c.ranges.slope) (rw (add-one p.i) rise))
