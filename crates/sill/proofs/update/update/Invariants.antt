-- Below i every cell is the rule's, and none is out of range.
use Rattle.std.proofs.Common.{[], get_or, pos}
use Rattle.tables.proofs.Filling.{Filling}
use Rattle.tables.specs.Pools.{as_row}
use Rattle.sill_rules.specs.Refusals.{off_pool}
use Rattle.sill.specs.Rows.{end_at}
use Rattle.sill.proofs.update.update.Given as goal

abbrev pub invariant-loop-i : goal.invariant-loop-i
invariant-loop-i l =
    Filling [] l.call.n (λ k. off_pool (get_or l.bed k (pos 0)) (end_at l.call l.bed l.b l.f k))
    (λ k. as_row (end_at l.call l.bed l.b l.f k)) l.initial.a l.a l.i
