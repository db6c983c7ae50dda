use Rattle.std.proofs.Common.{◌∙◌, ap₂, List, [], ◌∷◌, arith}
use Rattle.whole.specs.Parts.{fit}
use Rattle.whole.specs.Machine.{X, v, ◌⊕◌, ◌⊝◌, Entry, entry, need, value, back}
use Rattle.tables.specs.Cells.{Cell}
use Rattle.rules.specs.Refusals.{past}
use Rattle.reach.specs.Ranges.{Wide}
use Rattle.finishing.proofs.limiter.jumps.Goals as goal

-- level means and slopes of the two
abbrev levels : {x y : Cell} → Wide x × Wide y → List Entry
levels (x, y) = entry (fit x.e0 tt) x.e0 ∷ entry (fit x.e1 tt) x.e1 ∷ entry (fit y.e0 tt) y.e0 ∷ entry (fit y.e1 tt) y.e1 ∷ []

abbrev rise : X
rise = v 2 ⊝ v 3 ⊝ (v 0 ⊕ v 1)

pub overflow_sub-y-2 : goal.overflow_sub-y-2
overflow_sub-y-2 c = need (levels c.requires) rise tt

pub returns : goal.returns
returns c = c.past.ensures ∙ ap₂ past (back {z = c.args.call.jump} (omega arith)) (value (levels c.requires) rise tt)
