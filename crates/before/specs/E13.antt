-- To be believed. The answer before E13: a refusal had a number and no place. All else is as in the rules in force.
use Rattle.std.specs.Prelude.{cond, List, ℕ, eqb, ℤ}
use Rattle.rules.specs.Lent.{Lent, cells_of, number, filled, crossed}
use Rattle.rules.specs.Lent as lent

pub data Outcome : Type 0 where
  refused : ℕ → Outcome
  accepted : List ℤ → ℤ → ℤ → Outcome

-- what is left of an outcome in force without its place
unfoldable pub unplaced : lent.Outcome → Outcome
unplaced (lent.refused k p) = refused k
unplaced (lent.accepted t w v) = accepted t w v

unfoldable pub step_of : Lent → Outcome
step_of a = cond (eqb (number a) 0) (accepted (filled a) (crossed a 0) (crossed a (cells_of a))) (refused (number a))
