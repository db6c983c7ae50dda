-- The two answers, each with what it writes.
use Rattle.std.proofs.Common.{refl, ◌≤◌, arith, rules}
use Rattle.whole.specs.Machine.{back}
use Rattle.rules.specs.Limits.{most_cells}
use Rattle.reach.specs.Gives.{code, placed}
use Rattle.editor.specs.Told.{volumes_in}
use Rattle.editor.proofs.tell.Goals as goal

pub overflow_cast-place : goal.overflow_cast-place
unfolding placed
overflow_cast-place c =
    let few : c.in-Err.refused.place ≤ most_cells = rw c.in-Err.is at c.requires in record { fits = omega (arith, few) }

pub returns-in-Ok : goal.returns-in-Ok
unfolding code placed volumes_in
returns-in-Ok c = let v = c.in-Ok.crossed in
    rw (back {z = v.first} (search rules), back {z = v.last} (search rules), c.in-Ok.is)
    (record { number = refl; crossed = refl; place = refl })

pub returns-in-Err : goal.returns-in-Err
unfolding code placed volumes_in
returns-in-Err c = rw c.in-Err.is (record { number = c.from.ensures; crossed = refl; place = refl })
