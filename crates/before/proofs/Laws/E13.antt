-- A place is all that E13 added to an answer.
-- Assumes nothing.
use Rattle.std.specs.Prelude.{◌≡◌, eqb}
use Rattle.whole.specs.Flags.{by}
use Rattle.rules.specs.Lent as lent
use Rattle.rules.specs.Lent.{Lent, number}
use Rattle.before.specs.E13.{unplaced, step_of}

pub without_place : (a : Lent) → unplaced (lent.step_of a) ≡ step_of a
unfolding lent.step_of step_of unplaced
without_place a = by (eqb (number a) 0) (λ e. rw e) (λ e. rw e)
