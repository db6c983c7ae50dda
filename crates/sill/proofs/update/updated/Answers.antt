-- The push is no larger than the pressures of two faces make it, and the level and the discharge are the rule's.
use Rattle.std.proofs.Common.{[], ◌∷◌}
use mir.Facts.{to_z-of_z}
use Rattle.whole.specs.Parts.{fit}
use Rattle.whole.specs.Machine.{back64}
use Rattle.sill.specs.Laws.PoolSizes.{push_size}
use Rattle.sill.specs.Rows.{update_by}
use Rattle.sill.proofs.update.updated.Goals as goal

pub flow_of-flow-requires-clause-up_to : goal.flow_of-flow-requires-clause-up_to
flow_of-flow-requires-clause-up_to c =
    let p = c.requires.row in let size = push_size p.0 p.1 p.2 in rw (c.push_of-e.ensures, to_z-of_z (fit size tt)) size

pub returns : goal.returns
unfolding update_by
returns c =
    let push = back64 c.push_of-e.type_inv c.push_of-e.ensures in
    let level = back64 c.level_of-level.type_inv c.level_of-level.ensures in
    let flow = back64 c.flow_of-flow.type_inv (rw push at c.flow_of-flow.ensures) in
    λ j. level j ∷ flow j ∷ []
