-- Each public statement leaves one answer: two answers that meet it are equal.
-- Assumes nothing.
use mathlib.Core.Path.{◌≡◌, sym, ◌∙◌}
use lib.IntN.{ℤ}
use Rattle.std.specs.Prelude.{Option}
use Rattle.speeds.specs.Given.{speed_given, wave_given, cube_given}

pub speed_unique : (q h d : ℤ) (a b : Option ℤ) → a ≡ speed_given q h d → b ≡ speed_given q h d → a ≡ b
speed_unique q h d a b p r = p ∙ sym r

pub wave_unique : (h : ℤ) (a b : Option ℤ) → a ≡ wave_given h → b ≡ wave_given h → a ≡ b
wave_unique h a b p r = p ∙ sym r

pub cube_unique : (h : ℤ) (a b : Option ℤ) → a ≡ cube_given h → b ≡ cube_given h → a ≡ b
cube_unique h a b p r = p ∙ sym r
