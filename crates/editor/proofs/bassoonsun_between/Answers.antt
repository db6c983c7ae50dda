-- The answer, with two counts that are small.
use Rattle.std.proofs.Common.{refl, arith, rules}
use Rattle.std.specs.Prelude.{set}
use Rattle.whole.specs.Machine.{back, as_whole}
use Rattle.sums.specs.Gives.{asked, question_code}
use Rattle.sums.specs.Answered.{asked_few}
use Rattle.editor.specs.Told.{reading_into}
use Rattle.editor.proofs.bassoonsun_between.Goals as goal

pub overflow_cast-answer : goal.overflow_cast-answer
overflow_cast-answer c = let p = c.args in
    record { sfits = omega (arith, asked_few p.bed.now p.state.now p.sums.now p.a p.b c.in-Ok.water c.in-Ok.ensures) }

pub overflow_cast-answer-in-Ok : goal.overflow_cast-answer-in-Ok
overflow_cast-answer-in-Ok c = let p = c.args in
    record { sfits = omega (arith, asked_few p.bed.now p.state.now p.sums.now p.a p.b c.in-Ok.water c.in-Ok.ensures) }

pub returns-in-Err : goal.returns-in-Err
unfolding asked question_code reading_into
returns-in-Err c = rw (← c.in-Err.ensures) (record { number = c.from.ensures; reading = refl })

pub returns-in-Ok : goal.returns-in-Ok
unfolding asked question_code reading_into
returns-in-Ok c =
    let p = c.args in let w = c.in-Ok.water in let few = asked_few p.bed.now p.state.now p.sums.now p.a p.b w c.in-Ok.ensures in
    let depth = back {z = w.depth} (search rules) in
    let cells = as_whole w.cells (omega (arith, few)) in let blocks = as_whole w.blocks (omega (arith, few)) in
    rw (← c.in-Ok.ensures)
    (record { number = refl; reading = λ i. set (set (set p.answer.now 0 (depth i)) 1 (cells i)) 2 (blocks i) })
