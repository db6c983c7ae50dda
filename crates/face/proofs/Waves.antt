-- How large what is worked of two sides within the limits is, and what the machine has of it.
-- Assumes nothing.
use mathlib.Core.List.{List, [], ◌∷◌}
use lib.IntN.{pos, ◌+ℤ◌, ◌-ℤ◌, ◌*ℤ◌}
use lib.Signed.{quot_z}
use Rattle.whole.specs.Parts.{Within, b_add, b_sub, b_mul, b_lit}
use Rattle.whole.specs.Quotient.{b_quot_by}
use Rattle.whole.specs.Choice.{b_size}
use Rattle.whole.specs.Machine.{Entry, sized}
use Rattle.rules.specs.Face.{Side, wave, u_star, a_star}
use Rattle.rules.specs.Laws.Sizes.{Sound}
use Rattle.rules.proofs.Laws.Sizes.{wave_size}
use Rattle.face.specs.declared.flux.Water.{Water}
use Rattle.face.specs.Sides.{side_in}
use Rattle.face.specs.Waves.{Known}

pub u_star_size : (l r : Side) → Sound l → Sound r → Within 336336 (u_star l r)
unfolding u_star
u_star_size l r p q = b_sub (b_add (b_quot_by (pos 2) (b_add p.speed q.speed)) (wave_size p)) (wave_size q)

pub a_star_size : (l r : Side) → Sound l → Sound r → Within 168168 (a_star l r)
unfolding a_star
a_star_size l r p q = b_size (quot_z (pos 2 *ℤ (wave l.h +ℤ wave r.h) +ℤ l.u -ℤ r.u) (pos 4))
    (b_quot_by (pos 4) (b_sub (b_add (b_mul (b_lit (pos 2)) (b_add (wave_size p) (wave_size q))) p.speed) q.speed))

-- the speeds, the wave speeds, u* and a* of the two sides
abbrev pub waves : {l r : Water} → Known l → Known r → List Entry
waves {l} {r} p q =
    sized p.sound.speed tt ∷ sized p.a_in tt ∷ sized q.sound.speed tt ∷ sized q.a_in tt
    ∷ sized (u_star_size (side_in l.side) (side_in r.side) p.sound q.sound) tt
    ∷ sized (a_star_size (side_in l.side) (side_in r.side) p.sound q.sound) tt
    ∷ []
