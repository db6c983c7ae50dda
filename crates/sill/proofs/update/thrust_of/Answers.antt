-- The product is formed whole: it stays below 2^63 for any pressure that a cell in range has.
use mathlib.Core.List.{List, [], ◌∷◌}
use native.Mathlib.Omega.{arith}
use lib.IntN.{ℤ, pos, ◌*ℤ◌}
use lib.Signed.{◌<ℤ◌}
use Rattle.std.proofs.Common.{SFits}
use Rattle.std.specs.Int.{w64}
use Rattle.whole.specs.Parts.{of_lt}
use Rattle.whole.specs.Difference.{at, lit, ◌⊠◌, lt! }
use Rattle.whole.specs.Machine.{X, v, k, ◌⊗◌, ◌⊘◌, Entry, entry, sized, need, value, divisor}
use Rattle.reach.specs.Ranges.{UpTo}
use Rattle.sill.specs.declared.rows.Call.{Call}
use Rattle.sill.specs.Rows.{thrust}
use Rattle.sill.specs.Ranges.{Numbers, most_pressure}
use Rattle.sill.proofs.update.thrust_of.Goals as goal

-- the pressure, the length of a cell and the step
abbrev env : {e : ℤ} {call : Call} → SFits w64 e → UpTo most_pressure e → Numbers call → List Entry
env f p num = entry f p ∷ sized num.dx_in tt ∷ sized num.dt_in tt ∷ []

abbrev above : X
above = k (pos 981) ⊗ v 0 ⊗ v 2

abbrev below : X
below = k (pos 819200) ⊗ v 1

wide_pos : (dx : ℤ) → pos 0 <ℤ dx → pos 0 <ℤ (pos 819200 *ℤ dx)
wide_pos dx h = lt! (lit 0) (lit 819200 ⊠ at dx) (omega (arith, of_lt h))

pub nonzero_div-result : goal.nonzero_div-result
nonzero_div-result c = let num = c.requires.numbers in
    let ρ : List Entry = env c.ranges.e c.requires.up_to num in
    (divisor ρ below tt (wide_pos c.args.call.dx num.dx_pos), need ρ (above ⊘ below) tt)

pub returns : goal.returns
unfolding thrust
returns c = value (env c.ranges.e c.requires.up_to c.requires.numbers) (above ⊘ below) tt
