-- What is inside the list is no larger than its end, so that its parity is that of its size.
use Rattle.std.proofs.Common.{arith}
use Rattle.std.proofs.lemmas.Int.{to_z-of_z}
use Rattle.rules.specs.Refusals.{bad_bed}
use Rattle.stage.proofs.checks.bad_value.Goals as goal

pub returns-then-outside : goal.returns-then-outside
unfolding bad_bed
returns-then-outside c = grind (arith, to_z-of_z)

pub returns : goal.returns
unfolding bad_bed
returns c = grind (arith, to_z-of_z)
