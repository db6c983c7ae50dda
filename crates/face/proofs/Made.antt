-- A flux by its four values; and a side within the limits is read back from the bits of its numbers.
-- Assumes nothing.
use mathlib.Core.Path.{◌≡◌}
use lib.IntN.{ℤ}
use mir.Syntax.{w64}
use mir.Val.{to_z, of_z}
use mir.Facts.{to_z-of_z}
use Rattle.whole.specs.Parts.{fit}
use Rattle.rules.specs.Face.{Side, Flux}
use Rattle.rules.specs.Laws.Sizes.{Sound}
use Rattle.rules.proofs.Laws.Sizes.{depth_size}

pub made : {f k a s : ℤ} (x : Flux) → f ≡ x.F → k ≡ x.K → a ≡ x.A → s ≡ x.S → ◌≡◌ {A = Flux} (record { F = f; K = k; A = a; S = s }) x
made x p q r t = λ j. record { F = p j; K = q j; A = r j; S = t j }

pub back_h : {x : Side} → Sound x → to_z w64 (of_z w64 x.h) ≡ x.h
back_h p = to_z-of_z (fit (depth_size p) tt)

pub back_u : {x : Side} → Sound x → to_z w64 (of_z w64 x.u) ≡ x.u
back_u p = to_z-of_z (fit p.speed tt)
