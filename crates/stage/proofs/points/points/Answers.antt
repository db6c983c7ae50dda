use Rattle.std.specs.Prelude.{◌≡◌, Bool, ◌||◌, List, ℕ, get_or, ℤ, pos}
use Rattle.std.proofs.Common.{◌∙◌, sym, ap₂, arith}
use Rattle.whole.specs.Machine.{back}
use Rattle.tables.proofs.Filling.{fill_more, fill_stops, fill_ends}
use Rattle.tables.specs.Cells.{seen}
use Rattle.rules.specs.Limits.{fastest}
use Rattle.rules.specs.Reach.{Bed, State, bed_at}
use Rattle.rules.specs.Refusals.{past, fast_points}
use Rattle.reach.specs.Places.{fill_stopped, fill_ended}
use Rattle.stage.specs.Rows.{point_row, fast_points_at, momentum_at}
use Rattle.stage.proofs.points.points.Goals as goal

module _ (bed : List ℤ) (s : State) (i : ℕ) {dry read : ℤ} {b : Bed} {x : List ℤ} (r : read ≡ dry) (under : b ≡ bed_at bed i)
    (is : x ≡ point_row read b (s i)) where
  row : x ≡ point_row dry (bed_at bed i) (s i)
  row = is ∙ (λ j. point_row (r j) (under j) (s i))

  -- the momentum of cell i is the rule's, and so is what was said of its two speeds, each as it was read
  momentum : {g : ℤ} → g ≡ get_or x 2 (pos 0) → g ≡ momentum_at dry bed s i
  unfolding point_row
  momentum e = e ∙ (λ j. get_or (row j) 2 (pos 0))

  fast : {before behind : ℤ} {said : Bool} → before ≡ get_or x 0 (pos 0) → behind ≡ get_or x 1 (pos 0)
      → said ≡ (past fastest before || past fastest behind) → fast_points_at dry bed s i ≡ said
  unfolding point_row fast_points
  fast l r e = sym (e ∙ ap₂ (λ u w. past fastest u || past fastest w)
      (l ∙ (λ j. get_or (row j) 0 (pos 0))) (r ∙ (λ j. get_or (row j) 1 (pos 0))))

pub returns-then-either_fast : goal.returns-then-either_fast
returns-then-either_fast c =
    let l = c.loop-i in let bed = c.args.course.bed.now in let s = seen c.args.t.now in let x = c.points_of-p.result in
    let dry = back {z = c.args.course.call.dry} (omega arith) in
    let said = fast bed s l.i dry c.under.ensures c.points_of-p.ensures (back {z = get_or x 0 (pos 0)} (omega arith))
    (back {z = get_or x 1 (pos 0)} (omega arith)) c.either_fast.ensures in
    let g = momentum bed s l.i dry c.under.ensures c.points_of-p.ensures (back {z = get_or x 2 (pos 0)} (omega arith)) in
    fill_stopped l.i (omega arith)
    (fill_stops (pos 0) _ _ _ _ l.g l.i _ (omega arith) (omega arith) l.invariant g (said ∙ c.if-either_fast.true))

pub loop-i-preserved : goal.loop-i-preserved
loop-i-preserved c =
    let l = c.loop-i in let bed = c.args.course.bed.now in let s = seen c.args.t.now in let x = c.points_of-p.result in
    let dry = back {z = c.args.course.call.dry} (omega arith) in
    let said = fast bed s l.i dry c.under.ensures c.points_of-p.ensures (back {z = get_or x 0 (pos 0)} (omega arith))
    (back {z = get_or x 1 (pos 0)} (omega arith)) c.either_fast.ensures in
    let g = momentum bed s l.i dry c.under.ensures c.points_of-p.ensures (back {z = get_or x 2 (pos 0)} (omega arith)) in
    fill_more (pos 0) _ _ _ _ l.g l.i _ (omega arith) (omega arith) l.invariant g (said ∙ c.if-either_fast.false)

pub returns : goal.returns
returns c = fill_ended (fill_ends (pos 0) _ _ _ _ c.loop-i.g c.loop-i.i (omega arith) c.loop-i.invariant)
