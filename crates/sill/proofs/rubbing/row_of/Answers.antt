-- The speed is asked of a discharge and a depth within the limits.
use mir.Facts.{to_z-of_z}
use Rattle.whole.specs.Parts.{fit}
use Rattle.whole.specs.Machine.{back64}
use Rattle.sill.specs.Laws.PoolSizes.{pool_sizes}
use Rattle.sill.proofs.rubbing.row_of.Goals as goal

pub speed_of-requires-clause-up_to : goal.speed_of-requires-clause-up_to
speed_of-requires-clause-up_to c = let q = (pool_sizes c.requires.inside).flow in rw (to_z-of_z (fit q tt)) q

pub speed_of-requires-clause-pos_bound : goal.speed_of-requires-clause-pos_bound
speed_of-requires-clause-pos_bound c =
    let k = pool_sizes c.requires.inside in
    rw (back64 c.depth_of.type_inv (rw (back64 c.bed_at.type_inv c.bed_at.ensures) at c.depth_of.ensures)) (k.least, k.most)
