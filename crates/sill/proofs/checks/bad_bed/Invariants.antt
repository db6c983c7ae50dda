-- Below i no value of the bed is out of range.
use Rattle.std.proofs.Common.{Bool, List, get_or, length, ℕ, ℤ, pos}
use Rattle.tables.proofs.Scan.{Scanned}
use Rattle.sill_rules.specs.Refusals.{bad_bed}
use Rattle.sill.proofs.checks.bad_bed.Given as goal

abbrev pub bad : List ℤ → ℕ → Bool
bad bed k = bad_bed (get_or bed k (pos 0))

abbrev pub invariant-loop-i : goal.invariant-loop-i
invariant-loop-i l = Scanned (bad l.bed) (length l.bed) l.i
