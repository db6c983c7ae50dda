-- A stage answers by the first of its checks, and where it passed them its faces and its cells are the rule's.
use Rattle.std.specs.Prelude.{◌≡◌, Bool, List, ℕ, ℤ, Option, None, Some, Result, Ok, Err}
use Rattle.std.specs.Result.{IsErrAnd}
use Rattle.std.proofs.Common.{sym, ◌∙◌, ap, arith}
use Rattle.tables.specs.Rows.{Written}
use Rattle.tables.specs.Cells.{seen}
use Rattle.tables.proofs.Filling.{all_filled}
use Rattle.rules.specs.Reach as rules
use Rattle.rules.specs.Reach.{State}
use Rattle.rules.specs.Refusals.{stage_checks}
use Rattle.rules.specs.Found.{at, found}
use Rattle.reach.specs.declared.Reach.{Reach}
use Rattle.reach.specs.declared.Call.{Call}
use Rattle.reach.specs.declared.answer.Refusal.{Refusal}
use Rattle.reach.specs.declared.answer.Refusal.TheVariants.{Speed, TimeStep}
use Rattle.reach.specs.declared.answer.Refused.{Refused}
use Rattle.reach.specs.Places.{first_place, none_says, FillStops}
use Rattle.reach.specs.Refusals.{number_of, refused_at}
use Rattle.reach.specs.Told.{found_in}
use Rattle.reach.specs.Laws.Refusals.{stopped_at, told_there, passed_by}
use Rattle.reach.specs.Laws.Checks.{handed_on}
use Rattle.stage.specs.declared.rows.FaceRow.{FaceRow}
use Rattle.stage.specs.Rows.{fast_points_at}
use Rattle.stage.specs.Says.{FaceSpeedsSay, StageSays}
use Rattle.stage.specs.Laws.OneStage.{Slowed, says_fast, says_points, says_long, says_none, sides_sound, momenta, rows_sized}
use Rattle.stage.specs.Laws.OneStage.{slow_stage, stage_stops, stage_done}
use Rattle.stage.proofs.stages.stage.Goals as goal

-- the check with the refusal k, whose search found p and which answered so
module _ (k : Refusal) {p : Option ℕ} {answer : Result (Unit {0}) Refused} (told : answer ≡ refused_at k p) where
  -- is passed,
  passed : answer ≡ Ok tt → p ≡ None
  passed ok = passed_by k p tt (sym told ∙ ok)

  -- or stops the stage, which hands its refusal on
  stopped : {r : rules.Reach} {c : rules.Call} {s : State} {f : List FaceRow} {u : List (List ℤ)} (whole : Result (Unit {0}) Refused)
      → (e : Refused) → answer ≡ Err e → IsErrAnd whole (λ y. y ≡ e) → ((i : ℕ) → p ≡ Some i → at (number_of k) i ≡ found (stage_checks r c s))
      → StageSays r c s (found_in whole) f u
  stopped whole e err handed says =
      let here = sym told ∙ err in let on = handed_on whole e handed in
      stage_stops e on (ap found_in on ∙ told_there k p e here ∙ says e.place (stopped_at k p e here).0)

-- a search that found none has filled its table
filled : {A : Type 0} {d : A} {n : ℕ} {p : ℕ → Bool} {f : ℕ → A} {k : Option ℕ} {a : List A} → FillStops d n p f k a → k ≡ None
    → Written d a n f
filled {d} {n} {p} {f} says none = all_filled d n p f (rw none at says.fills) (omega arith)

-- both checks of speeds are passed
slowed : {reach : Reach} {call : Call} {bed : List ℤ} {s : State} {d : List (List ℤ)} {k p : Option ℕ} {x y : Result (Unit {0}) Refused}
    → FaceSpeedsSay reach call bed s k d → x ≡ refused_at Speed k → x ≡ Ok tt → p ≡ first_place (fast_points_at call.dry bed s) reach.n
    → y ≡ refused_at Speed p → y ≡ Ok tt → Slowed reach call bed s d
slowed faces x x_ok points y y_ok = slow_stage faces (passed Speed x x_ok) points (passed Speed y y_ok)

pub returns-in_err-at : goal.returns-in_err-at
returns-in_err-at c ρ =
    stopped Speed c.at.ensures c.from_residual.result c.in_err-at.field-0.0 c.in_err-at.was c.from_residual.ensures.1
    (says_fast c.face_speeds.ensures ρ)

pub returns-in_err-at-2 : goal.returns-in_err-at-2
returns-in_err-at-2 c ρ =
    stopped Speed c.at-2.ensures c.from_residual-in_err-at-2.result c.in_err-at-2.field-0.0 c.in_err-at-2.was
    c.from_residual-in_err-at-2.ensures.1
    (says_points c.face_speeds.ensures ρ (passed Speed c.at.ensures c.in_ok-at.was) c.points.ensures.stops)

pub faces-requires-clause-sounds : goal.faces-requires-clause-sounds
faces-requires-clause-sounds c =
    let slow = slowed c.face_speeds.ensures c.at.ensures c.in_ok-at.was c.points.ensures.stops c.at-2.ensures c.in_ok-at-2.was in
    (sides_sound slow.faces c.requires.ranged, slow.faces.slow_ends)

pub returns-in_err-at-3 : goal.returns-in_err-at-3
returns-in_err-at-3 c ρ =
    let slow = slowed c.face_speeds.ensures c.at.ensures c.in_ok-at.was c.points.ensures.stops c.at-2.ensures c.in_ok-at-2.was in
    stopped TimeStep c.at-3.ensures c.from_residual-in_err-at-3.result c.in_err-at-3.field-0.0 c.in_err-at-3.was
    c.from_residual-in_err-at-3.ensures.1
    (says_long slow ρ c.faces.ensures.stops)

pub update-requires-clause-face_rows : goal.update-requires-clause-face_rows
update-requires-clause-face_rows c =
    let slow = slowed c.face_speeds.ensures c.at.ensures c.in_ok-at.was c.points.ensures.stops c.at-2.ensures c.in_ok-at-2.was in
    rows_sized slow c.requires.ranged c.requires.numbers c.faces.new.f
    (filled c.faces.ensures (passed TimeStep c.at-3.ensures c.in_ok-at-3.was))

pub update-requires-clause-momenta : goal.update-requires-clause-momenta
update-requires-clause-momenta c =
    let a = c.args in let calm = passed Speed c.at-2.ensures c.in_ok-at-2.was in
    momenta a.course.call.dry a.course.reach.n a.course.bed.now (seen a.t.now) c.requires.ranged
    (none_says _ _ (sym c.points.ensures.stops ∙ calm)) c.points.new.g (filled c.points.ensures calm)

pub returns : goal.returns
returns c ρ =
    let slow = slowed c.face_speeds.ensures c.at.ensures c.in_ok-at.was c.points.ensures.stops c.at-2.ensures c.in_ok-at-2.was in
    let short = passed TimeStep c.at-3.ensures c.in_ok-at-3.was in
    let rows = filled c.faces.ensures short in
    let points = filled c.points.ensures (passed Speed c.at-2.ensures c.in_ok-at-2.was) in
    record {
      found = says_none slow ρ c.faces.ensures.stops short;
      done = λ z. stage_done slow ρ c.requires.ranged c.requires.numbers c.faces.new.f c.points.new.g rows points _ c.update.ensures;
    }
