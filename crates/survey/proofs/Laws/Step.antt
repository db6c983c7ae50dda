-- The states and the volumes of a step from the other end. A finished stage is turned where its means are not below nought, which is so of
-- every call that passes the checks up to its faces.
-- Assumes nothing.
use Rattle.std.specs.Prelude.{◌≡◌, ℕ, suc, ◌+◌, ◌<◌, neg_ℤ}
use Rattle.std.proofs.Common.{◌∙◌, arith}
use Rattle.std.proofs.Math.Path.{ap₂}
use Rattle.tables.specs.Cells.{Cell}
use Rattle.rules.specs.Face.{Flux}
use Rattle.rules.specs.Lawful.{Lawful}
use Rattle.rules.specs.Shown.{volume}
use Rattle.rules.specs.Reach.{State, under}
use Rattle.rules.specs.Stage.{face_at, stage}
use Rattle.rules.specs.Step.{rubbed_cell, rubbed, stage_one, half, carry, joined_cell, joined, next}
use Rattle.rules.proofs.Laws.Shown.{volume_flip}
use Rattle.rules.proofs.Laws.Positive.{Brief, stage_one_mean, joined_mean}
use Rattle.rules.proofs.Laws.Runs.{Early}
use Rattle.survey.specs.Turned.{turned_cell}
use Rattle.survey.proofs.Laws.Signs.{half_odd}
use Rattle.survey.proofs.Laws.Cell as cell
use Rattle.survey.proofs.Laws.Surveys.{Surveys, other_reach, other_call, under_turned, Turned}
use Rattle.survey.proofs.Laws.Faces.{face_turned, stage_turned}
use Rattle.survey.proofs.Laws.Finishing.{finish_turned}

pub rubbed_turned : (v : Surveys) (s t : State) → Turned v s t
    → Turned v (rubbed v.reach v.call s) (rubbed (other_reach v) (other_call v) t)
unfolding rubbed
rubbed_turned v s t w i j o =
    (λ m. rubbed_cell v.call.dt v.call.dry (v.roughs i j o m) (under_turned v i j o m) (w i j o m))
    ∙ cell.rubbed_turned (under v.reach j) (s j) v.call.dt v.call.dry (v.call.rough j)

module _ (v : Surveys) (law : Lawful v.reach.face) (s t : State) (w : Turned v s t) (a : Early v.reach v.call s) where
  -- the state after friction, and the finished stage one, from each end
  abbrev x : State
  x = rubbed v.reach v.call s

  abbrev x' : State
  x' = rubbed (other_reach v) (other_call v) t

  abbrev y : State
  y = stage_one v.reach v.call s

  abbrev y' : State
  y' = stage_one (other_reach v) (other_call v) t

  pub stage_one_turned : Turned v y y'
  unfolding stage_one
  stage_one_turned = finish_turned v (stage v.reach v.call x) (stage (other_reach v) (other_call v) x')
      (stage_turned v law x x' (rubbed_turned v s t w)) (stage_one_mean v.reach law v.call a.fine s a.wet a.brief)

  pub carry_turned : 0 < v.reach.n → (i j : ℕ) → i + j ≡ v.reach.n
      → carry (other_reach v) (other_call v) t i ≡ neg_ℤ (carry v.reach v.call s j)
  unfolding carry
  carry_turned z i j o =
      let of = volume v.reach.dx v.call.dt in
      let p = face_at v.reach v.call x j in let q = face_at v.reach v.call y j in
      ap₂ (λ (f g : Flux). half (of f) (of g))
      (face_turned v law x x' (rubbed_turned v s t w) z i j o) (face_turned v law y y' stage_one_turned z i j o)
      ∙ ap₂ half (volume_flip v.reach.dx v.call.dt p) (volume_flip v.reach.dx v.call.dt q) ∙ half_odd (of p) (of q)

  joined_turned : Turned v (joined v.reach v.call s) (joined (other_reach v) (other_call v) t)
  unfolding joined
  joined_turned i j o =
      let g = carry v.reach v.call s in let g' = carry (other_reach v) (other_call v) t in let two = stage v.reach v.call y j in
      ap₂ (λ (x y : Cell). joined_cell x y (g' i) (g' (suc i))) (rubbed_turned v s t w i j o) (stage_turned v law y y' stage_one_turned i j o)
      ∙ ap₂ (joined_cell (turned_cell (x j)) (turned_cell two))
      (carry_turned (omega arith) i (suc j) (omega arith)) (carry_turned (omega arith) (suc i) j (omega arith))
      ∙ cell.joined_turned (x j) two (g j) (g (suc j))

  pub next_turned : Brief v.reach v.call y → Turned v (next v.reach v.call s) (next (other_reach v) (other_call v) t)
  unfolding next
  next_turned b = finish_turned v (joined v.reach v.call s) (joined (other_reach v) (other_call v) t) joined_turned
      (joined_mean v.reach law v.call a.fine s a.wet a.brief b)
