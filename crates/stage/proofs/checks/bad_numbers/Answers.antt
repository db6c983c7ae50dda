-- Each test of a number is the rule's, as the structs say that their numbers fit 64 bits.
use Rattle.std.proofs.Common.{arith}
use Rattle.std.proofs.lemmas.Int.{to_z-of_z}
use Rattle.rules.specs.Refusals.{any, bad_call}
use Rattle.stage.proofs.checks.bad_numbers.Goals as goal

pub returns-then-outside : goal.returns-then-outside
unfolding bad_call any
returns-then-outside c bed ρ = grind (arith, to_z-of_z)

pub returns-then-outside-2 : goal.returns-then-outside-2
unfolding bad_call any
returns-then-outside-2 c bed ρ = grind (arith, to_z-of_z)

pub returns-then-outside-3 : goal.returns-then-outside-3
unfolding bad_call any
returns-then-outside-3 c bed ρ = grind (arith, to_z-of_z)

pub returns-then-bad_dry : goal.returns-then-bad_dry
unfolding bad_call any
returns-then-bad_dry c bed ρ = grind (arith, to_z-of_z)

pub returns-then-bad_end : goal.returns-then-bad_end
unfolding bad_call any
returns-then-bad_end c bed ρ = grind (arith, to_z-of_z)

pub returns : goal.returns
unfolding bad_call any
returns c bed ρ = grind (arith, to_z-of_z)
