use Rattle.std.specs.Prelude.{◌≡◌, Bool, ◌||◌, List, [], ℕ, get_or, ℤ, pos}
use Rattle.std.proofs.Common.{◌∙◌, sym, ap₂, arith}
use Rattle.whole.specs.Machine.{back}
use Rattle.tables.proofs.Filling.{fill_more, fill_stops, fill_ends}
use Rattle.tables.specs.Cells.{seen}
use Rattle.rules.specs.Limits.{fastest}
use Rattle.rules.specs.Reach.{Bed, State, side_l, side_r, bed_at}
use Rattle.rules.specs.Refusals.{past}
use Rattle.reach.specs.Places.{fill_stopped, fill_ended}
use Rattle.stage.specs.Rows.{side_row, sides_at, fast_sides}
use Rattle.stage.proofs.sides.sides.Goals as goal

module _ (bed : List ℤ) (s : State) (i : ℕ) {dry read : ℤ} {b : Bed} {x : List ℤ} (r : read ≡ dry) (under : b ≡ bed_at bed i)
    (is : x ≡ side_row (side_l read b (s i)) (side_r read b (s i))) where
  -- the row of cell i is the rule's, and so is what was said of its two speeds, as they were read
  row : x ≡ sides_at dry bed s i
  unfolding sides_at
  row = is ∙ (λ j. side_row (side_l (r j) (under j) (s i)) (side_r (r j) (under j) (s i)))

  fast : {left right : ℤ} {said : Bool} → left ≡ get_or x 1 (pos 0) → right ≡ get_or x 3 (pos 0)
      → said ≡ (past fastest left || past fastest right) → fast_sides dry bed s i ≡ said
  unfolding sides_at fast_sides
  fast l r e = sym (e ∙ ap₂ (λ u w. past fastest u || past fastest w)
      (l ∙ (λ j. get_or (row j) 1 (pos 0))) (r ∙ (λ j. get_or (row j) 3 (pos 0))))

pub returns-then-either_fast : goal.returns-then-either_fast
returns-then-either_fast c =
    let l = c.loop-i in let bed = c.args.course.bed.now in let s = seen c.args.t.now in let x = c.sides_of-s.result in
    let dry = back {z = c.args.course.call.dry} (omega arith) in
    let said = fast bed s l.i dry c.under.ensures c.sides_of-s.ensures (back {z = get_or x 1 (pos 0)} (omega arith))
    (back {z = get_or x 3 (pos 0)} (omega arith)) c.either_fast.ensures in
    fill_stopped l.i (omega arith) (fill_stops [] _ _ _ _ l.d l.i _ (omega arith) (omega arith) l.invariant
    (row bed s l.i dry c.under.ensures c.sides_of-s.ensures) (said ∙ c.if-either_fast.true))

pub loop-i-preserved : goal.loop-i-preserved
loop-i-preserved c =
    let l = c.loop-i in let bed = c.args.course.bed.now in let s = seen c.args.t.now in let x = c.sides_of-s.result in
    let dry = back {z = c.args.course.call.dry} (omega arith) in
    let said = fast bed s l.i dry c.under.ensures c.sides_of-s.ensures (back {z = get_or x 1 (pos 0)} (omega arith))
    (back {z = get_or x 3 (pos 0)} (omega arith)) c.either_fast.ensures in
    fill_more [] _ _ _ _ l.d l.i _ (omega arith) (omega arith) l.invariant
    (row bed s l.i dry c.under.ensures c.sides_of-s.ensures) (said ∙ c.if-either_fast.false)

pub returns : goal.returns
returns c = fill_ended (fill_ends [] _ _ _ _ c.loop-i.d c.loop-i.i (omega arith) c.loop-i.invariant)
