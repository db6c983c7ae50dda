-- The whole root of a hundredth of 4,018,176·h, which the digits are, is the wave speed.
use mathlib.Core.Path.{subst}
use Prim.Native.Nat.{ℕ, ◌*◌, ◌/◌, ◌≤◌}
use native.Mathlib.Nat.{mul-one}
use Rattle.whole.specs.Largest.{IsLargest}
use Rattle.rules.proofs.Laws.Speeds.{wave_root}
use Rattle.digits.proofs.WholeRoot.{told}
use Rattle.speeds.proofs.search.fastest_wave.Goals as goal

pub returns : goal.returns
returns c =
    let h = c.args.h in let a = c.unwrap.result.whole in let o = told (rw c.unwrap.ensures at c.digits.ensures) in
    wave_root h a c.requires (subst (λ (z : ℕ). IsLargest (λ b. b * b ≤ z) a) (mul-one (4018176 * h / 100)) o.largest)
