-- Below i the numbers are the pattern's.
use Rattle.std.proofs.Common.{◌≡◌, ℕ, ◌<◌, get_or, pos}
use Rattle.draw.specs.Tables.{pattern_at}
use Rattle.draw.proofs.tables.fill_pattern.Given as goal

abbrev pub invariant-loop-i : goal.invariant-loop-i
invariant-loop-i l = (k : ℕ) → k < l.i → get_or l.table k (pos 0) ≡ pattern_at l.x k
