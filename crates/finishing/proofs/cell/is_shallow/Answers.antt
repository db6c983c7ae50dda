use Rattle.std.proofs.Common.{arith}
use Rattle.std.proofs.lemmas.Int.{to_z-of_z}
use Rattle.rules.specs.Reach.{h0}
use Rattle.reach.specs.Told.{bed_in}
use Rattle.finishing.specs.Laws.Sizes.{z0_size}
use Rattle.finishing.specs.Laws.Depths.{depth_fits_lem, depth_is}
use Rattle.finishing.proofs.cell.is_shallow.Goals as goal

pub overflow_sub-result : goal.overflow_sub-result
overflow_sub-result c = depth_fits_lem c.requires.1 (z0_size (bed_in c.args.b) c.requires.0) c.z0.ensures

pub returns : goal.returns
unfolding h0
returns c = grind (arith, to_z-of_z, depth_is c.requires.1 (z0_size (bed_in c.args.b) c.requires.0) c.z0.ensures)
