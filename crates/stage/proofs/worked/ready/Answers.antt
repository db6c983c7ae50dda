-- The four checks in their order; each is known to have been passed where the next one is made.
use Rattle.std.specs.Prelude.{◌≡◌, refl, Bool, false, List, ℕ, ℤ, Option, Result, Ok, Err}
use Rattle.std.specs.Result.{IsErrAnd}
use Rattle.std.proofs.Common.{◌∙◌, sym, ap, arith}
use Rattle.tables.specs.Some.{some}
use Rattle.tables.specs.Cells.{seen}
use Rattle.rules.specs.Refusals.{Check}
use Rattle.rules.specs.Found.{found}
use Rattle.rules.proofs.Laws.Verdicts.{check_at, ClearTo}
use Rattle.reach.specs.declared.answer.Refusal.{Refusal}
use Rattle.reach.specs.declared.answer.Refusal.TheVariants.{Bed, Friction, State, Speed}
use Rattle.reach.specs.declared.answer.Refused.{Refused}
use Rattle.reach.specs.Places.{first_place, none_says}
use Rattle.reach.specs.Refusals.{number_of, refused_at}
use Rattle.reach.specs.Told.{found_in}
use Rattle.reach.specs.Laws.Refusals.{passed_by}
use Rattle.reach.specs.Laws.Checks.{handed_on, check_stops, last_check}
use Rattle.stage.specs.declared.course.Course.{Course}
use Rattle.stage.specs.Says.{ready_checks}
use Rattle.stage.specs.Laws.LentChecks.{grounds, ranged}
use Rattle.stage.proofs.worked.ready.Goals as goal

abbrev checks : Course → List ℕ → List (List ℤ) → List Check
checks at friction t = ready_checks at.call.dry at.reach.n at.bed.now friction (seen t)

-- a search of a lent table goes over as many values as there are
over : (p : ℕ → Bool) {m n : ℕ} {q : Option ℕ} → m ≡ n → q ≡ first_place p m → q ≡ first_place p n
over p l is = is ∙ ap (first_place p) l

-- the check with the refusal k, whose search has found q and which answered so: it is passed,
passes : (k : Refusal) (p : ℕ → Bool) (n : ℕ) {q : Option ℕ} {answer : Result (Unit {0}) Refused} → q ≡ first_place p n
    → answer ≡ refused_at k q → answer ≡ Ok tt → some p n ≡ false
passes k p n {q} is told ok = none_says p n (sym is ∙ passed_by k q tt (sym told ∙ ok))

-- or it is check i of the list, and its refusal is handed on
stops : (xs : List Check) (i : ℕ) (k : Refusal) {q : Option ℕ} {answer : Result (Unit {0}) Refused} → number_of k ≡ (check_at xs i).no
    → q ≡ first_place (check_at xs i).at (check_at xs i).many → ClearTo xs i → answer ≡ refused_at k q
    → (whole : Result (Unit {0}) Refused) (e : Refused) → answer ≡ Err e → IsErrAnd whole (λ y. y ≡ e) → found_in whole ≡ found xs
stops xs i k {q} number is clear told whole e err handed =
    ap found_in (handed_on whole e handed) ∙ check_stops xs i k q number is clear e (sym told ∙ err)

pub returns-in_err-at : goal.returns-in_err-at
returns-in_err-at c =
    let list = checks c.args.course c.args.friction.now c.args.t.now in
    let beds = over _ (omega (arith, c.requires.room)) c.bad_bed.ensures in
    stops list 0 Bed refl beds tt c.at.ensures c.from_residual.result c.in_err-at.field-0.0 c.in_err-at.was c.from_residual.ensures.1

pub returns-in_err-at-2 : goal.returns-in_err-at-2
returns-in_err-at-2 c =
    let list = checks c.args.course c.args.friction.now c.args.t.now in
    let beds = over _ (omega (arith, c.requires.room)) c.bad_bed.ensures in
    let rough = over _ (omega (arith, c.requires.room)) c.bad_friction.ensures in
    stops list 1 Friction refl rough (passes Bed _ _ beds c.at.ensures c.in_ok-at.was, tt) c.at-2.ensures
    c.from_residual-in_err-at-2.result c.in_err-at-2.field-0.0 c.in_err-at-2.was c.from_residual-in_err-at-2.ensures.1

pub off-requires-clause-all_unfinished : goal.off-requires-clause-all_unfinished
off-requires-clause-all_unfinished c i l =
    let at = c.args.course in let beds = over _ (omega (arith, c.requires.room)) c.bad_bed.ensures in
    record { grounded = grounds at.reach.n at.bed.now (passes Bed _ _ beds c.at.ensures c.in_ok-at.was) i l; wide = c.requires.wides.0 i l }

pub returns-in_err-at-3 : goal.returns-in_err-at-3
returns-in_err-at-3 c =
    let list = checks c.args.course c.args.friction.now c.args.t.now in
    let beds = over _ (omega (arith, c.requires.room)) c.bad_bed.ensures in
    let rough = over _ (omega (arith, c.requires.room)) c.bad_friction.ensures in
    stops list 2 State refl c.off.ensures
    (passes Bed _ _ beds c.at.ensures c.in_ok-at.was, (passes Friction _ _ rough c.at-2.ensures c.in_ok-at-2.was, tt)) c.at-3.ensures
    c.from_residual-in_err-at-3.result c.in_err-at-3.field-0.0 c.in_err-at-3.was c.from_residual-in_err-at-3.ensures.1

pub fast-requires-clause-ranged : goal.fast-requires-clause-ranged
fast-requires-clause-ranged c =
    let at = c.args.course in let beds = over _ (omega (arith, c.requires.room)) c.bad_bed.ensures in
    ranged at.reach.n at.bed.now (seen c.args.t.now) (grounds at.reach.n at.bed.now (passes Bed _ _ beds c.at.ensures c.in_ok-at.was))
    (passes State _ _ c.off.ensures c.at-3.ensures c.in_ok-at-3.was)

pub returns : goal.returns
returns c =
    let list = checks c.args.course c.args.friction.now c.args.t.now in
    let beds = over _ (omega (arith, c.requires.room)) c.bad_bed.ensures in
    let rough = over _ (omega (arith, c.requires.room)) c.bad_friction.ensures in
    let bed_passed = passes Bed _ _ beds c.at.ensures c.in_ok-at.was in
    let rough_passed = passes Friction _ _ rough c.at-2.ensures c.in_ok-at-2.was in
    let range_passed = passes State _ _ c.off.ensures c.at-3.ensures c.in_ok-at-3.was in
    ap found_in c.at-4.ensures
    ∙ last_check list 3 Speed c.fast.result refl c.fast.ensures (bed_passed, (rough_passed, (range_passed, tt)))
    (λ slow. (bed_passed, (rough_passed, (range_passed, (slow, tt)))))
