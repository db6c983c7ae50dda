use Rattle.std.proofs.Common.{arith}
use Rattle.std.proofs.lemmas.Int.{to_z-of_z}
use Rattle.rules.specs.Finishing.{limited}
use Rattle.finishing.proofs.unfinished.UnfinishedTable.limited.Goals as goal

pub returns : goal.returns
unfolding limited
returns c = grind (arith, to_z-of_z)
