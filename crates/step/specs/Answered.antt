-- The outcome of a call, by what was worked.
-- Assumes nothing.
use Rattle.std.specs.Prelude.{◌≡◌, refl, true, false, List, ℤ, eqb, Ok, Err}
use Rattle.std.proofs.Math.Path.{ap}
use Rattle.std.proofs.Common.{sym, arith, eq-eqb, ne_eqb}
use Rattle.rules.specs.Lent.{Lent, refused, number, place, filled, crossed, step_of}
use Rattle.rules.specs.Found.{Found}
use Rattle.reach.specs.declared.answer.Volumes.{Volumes}
use Rattle.reach.specs.Refusals.{number_of}
use Rattle.stage.specs.Worked.{Volume, WorkedSays}
use Rattle.step.specs.Gives.{Answer, Gives, answer, number_in, leaves, code, gives_refused}

pub worked : (a : Lent) (w : Answer) (old new : List ℤ) → WorkedSays a w old new → Gives (step_of a) w old new
unfolding step_of answer number_in leaves code filled crossed
worked a (Err e) old new g =
    let is : number_of e.refusal ≡ number a = ap (λ (f : Found). f.no) g.found in
    let at : e.place ≡ place a = ap (λ (f : Found). f.place) g.found in
    let some : eqb (number a) 0 ≡ false = ne_eqb (number a) 0 (λ d. let y : ⊥ = omega (arith, is, d, g.some) in y) in
    let outcome : step_of a ≡ refused (number_of e.refusal) e.place = rw some (sym (λ i. refused (is i) (at i))) in
    rw g.kept (gives_refused e outcome old)
worked a (Ok v) old new g =
    let none : eqb (number a) 0 ≡ true = eq-eqb (number a) 0 g.none in
    rw none (record { says = λ i. Ok (record { first = g.left i; last = g.right i }); number = refl; table = g.cells })

-- the two volumes that an accepted call gives are each within the largest
pub worked_volumes : (a : Lent) (v : Volumes) (old new : List ℤ) → WorkedSays a (Ok v) old new → Volume v.first × Volume v.last
worked_volumes a v old new g = (g.left_in, g.right_in)
