-- The public statement leaves one answer: two answers that meet it are equal.
-- Assumes nothing.
use mathlib.Core.Path.{◌≡◌, sym, ◌∙◌, refl, ap}
use Rattle.std.specs.Prelude.{Option, Some, None, option_map}
use Rattle.rules.specs.Face.{Side}
use Rattle.rules.specs.Face as rules
use Rattle.face.specs.declared.sides.Flux.{Flux}
use Rattle.face.specs.Sides.{flux_in}
use Rattle.face.specs.Given.{face_given}

-- the code's flux of a rule's
abbrev flux_of : rules.Flux → Flux
flux_of x = record { f = x.F; k = x.K; a = x.A; s = x.S }

-- one answer for each value
pub one_flux : (a b : Option Flux) → option_map flux_in a ≡ option_map flux_in b → a ≡ b
one_flux a b e = sym (same a) ∙ ap (option_map flux_of) e ∙ same b
  where
    same : (a : Option Flux) → option_map flux_of (option_map flux_in a) ≡ a
    same (Some x) = refl
    same None = refl

pub face_unique : (l r : Side) (a b : Option Flux) → option_map flux_in a ≡ face_given l r → option_map flux_in b ≡ face_given l r → a ≡ b
face_unique l r a b p q = one_flux a b (p ∙ sym q)
