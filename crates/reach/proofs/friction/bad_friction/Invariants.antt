-- Below i no value of the friction is over 200.
use Rattle.std.proofs.Common.{Bool, List, get_or, length, pos, ℕ}
use Rattle.rules.specs.Refusals.{bad_rough}
use Rattle.tables.proofs.Scan.{Scanned}
use Rattle.reach.proofs.friction.bad_friction.Given as goal

abbrev pub bad : List ℕ → ℕ → Bool
bad friction k = bad_rough (pos (get_or friction k 0))

abbrev pub invariant-loop-i : goal.invariant-loop-i
invariant-loop-i l = Scanned (bad l.friction) (length l.friction) l.i
