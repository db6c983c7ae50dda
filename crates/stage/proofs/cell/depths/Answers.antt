-- Each number of the level less that of the bed fits, and is the rule's depth.
use Rattle.std.specs.Prelude.{[], ◌∷◌}
use Rattle.rules.specs.Reach.{h0, h1}
use Rattle.reach.specs.Told.{bed_in}
use Rattle.finishing.specs.Laws.Sizes.{z0_size, z1_size}
use Rattle.finishing.specs.Laws.Depths.{depth_fits_lem, depth_is}
use Rattle.stage.proofs.cell.depths.Goals as goal

pub overflow_sub-result : goal.overflow_sub-result
overflow_sub-result c = depth_fits_lem c.requires.wide.e0 (z0_size (bed_in c.args.b) c.requires.grounded) c.z0.ensures

pub overflow_sub-result-2 : goal.overflow_sub-result-2
overflow_sub-result-2 c = depth_fits_lem c.requires.wide.e1 (z1_size (bed_in c.args.b) c.requires.grounded) c.z1.ensures

pub returns : goal.returns
unfolding h0 h1
returns c =
    let mean = depth_is c.requires.wide.e0 (z0_size (bed_in c.args.b) c.requires.grounded) c.z0.ensures in
    let slope = depth_is c.requires.wide.e1 (z1_size (bed_in c.args.b) c.requires.grounded) c.z1.ensures in
    λ i. mean i ∷ slope i ∷ []
