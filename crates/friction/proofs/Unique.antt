-- Each public statement leaves one answer: two answers that meet it are equal.
-- Assumes nothing.
use mathlib.Core.Path.{◌≡◌, sym, ◌∙◌}
use lib.IntN.{ℤ}
use Rattle.std.specs.Prelude.{Option}
use Rattle.friction.specs.Given.{strength_given, slowed_given}

pub strength_unique : (dt f h u : ℤ) (a b : Option ℤ) → a ≡ strength_given dt f h u → b ≡ strength_given dt f h u → a ≡ b
strength_unique dt f h u a b p r = p ∙ sym r

pub slowed_unique : (x q : ℤ) (a b : Option ℤ) → a ≡ slowed_given x q → b ≡ slowed_given x q → a ≡ b
slowed_unique x q a b p r = p ∙ sym r
