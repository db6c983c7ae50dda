-- `positive_root` makes a double of the bits that `root_bits` found, and that double is the nearest one to the root.
use Rattle.root.proofs.Answers.{yes_of}
use Rattle.root.proofs.Nearest.{nearest_of}
use Rattle.root.proofs.positive_root.Goals as goal

pub returns : goal.returns
returns c = nearest_of (yes_of c.well_formed.0.1) c.requires c.root_bits.ensures
