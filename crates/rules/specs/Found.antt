-- To be believed. What a list of checks gives: a number and its place.
use Rattle.std.specs.Prelude.{List, ℕ}
use Rattle.rules.specs.Refusals.{Check, verdict, spot}
use Rattle.rules.specs.Lent.{Lent, number, place}

pub record Found : Type 0 where
  pub no : ℕ
  pub place : ℕ

abbrev pub at : ℕ → ℕ → Found
at k p = record { no = k; place = p }

-- of a list; and where none of it applies
abbrev pub found : List Check → Found
found xs = at (verdict xs) (spot xs)

abbrev pub none : Found
none = at 0 0

-- of a call
abbrev pub found_of : Lent → Found
found_of a = at (number a) (place a)
