-- A table whose numbers are all the pattern's is the pattern.
use Rattle.std.proofs.Common.{◌≡◌, length, pos, arith}
use Rattle.std.proofs.lemmas.List.FromFn.{fill_by_all}
use Rattle.draw.specs.Tables.{pattern_at}
use Rattle.draw.proofs.tables.fill_pattern.Goals as goal

pub returns : goal.returns
returns c =
    let e : length c.loop-i.table ≡ length c.args.table.now = omega (arith, c.loop-i.auto.table) in
    fill_by_all (pattern_at c.args.x) c.loop-i.table (length c.args.table.now) (pos 0) e (λ k l. c.loop-i.invariant k (omega arith))
