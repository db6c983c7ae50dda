-- The faces of a row from the other end, and a stage between them: what crosses is turned round. Of the face rule only `mirrored` is used.
-- Assumes nothing.
use Rattle.std.specs.Prelude.{◌≡◌}
use Rattle.std.proofs.Math.Path.{sym, ap, ap₂}
use Rattle.std.proofs.Common.{◌∙◌, eq-eqb}
use Prim.Native.Nat.{ℕ, zero, suc, ◌+◌, ◌<◌}
use native.Mathlib.Omega.{arith}
use Rattle.tables.specs.Cells.{Cell}
use Rattle.rules.specs.Face.{Flux}
use Rattle.rules.specs.Lawful.{mirror, flip, Lawful}
use Rattle.rules.specs.Shown.{cross_right, cross_at}
use Rattle.rules.specs.Ends.{left_end}
use Rattle.rules.specs.Reach.{State, Bed, under, side_l, side_r}
use Rattle.rules.specs.Stage.{at_left, at_right, face_at, update, stage}
use Rattle.rules.proofs.Laws.Mirror.{mirror_twice, flip_twice}
use Rattle.rules.proofs.Laws.Limiter.{not_last}
use Rattle.rules.proofs.Laws.EndsTurned as ends
use Rattle.survey.specs.Turned.{turned_cell}
use Rattle.survey.proofs.Laws.Cell.{turned_bed, side_l_turned, update_turned}
use Rattle.survey.proofs.Laws.Surveys.{Surveys, other_reach, other_call, other, under_turned}
use Rattle.survey.proofs.Laws.Surveys.{Turned, turned_back, TurnsInto, from_other, opposite_cell}

-- the side that a cell shows to its left is the mirror image of the one that it shows to its right from there, and the other way round
pub left_side : TurnsInto at_left (λ r c s i. mirror (at_right r c s i))
left_side v s t w = let d = v.call.dry in opposite_cell v s t w (side_l d) (λ b x. mirror (side_r d b x)) (side_l_turned d)

pub right_side : TurnsInto at_right (λ r c s i. mirror (at_left r c s i))
right_side v s t w i j o = sym (mirror_twice (at_right (other_reach v) (other_call v) t i))
    ∙ ap mirror (from_other at_left (λ r c s i. mirror (at_right r c s i)) left_side v s t w i j o)

module _ (v : Surveys) (law : Lawful v.reach.face) (s t : State) (w : Turned v s t) where
  -- the first face of the one is the last of the other
  first_face : (j : ℕ) → suc j ≡ v.reach.n → face_at (other_reach v) (other_call v) t 0 ≡ flip (face_at v.reach v.call s (suc j))
  unfolding cross_at cross_right
  first_face j o =
      let end = left_end v.reach.face v.call.dry v.call.right in let x = at_right v.reach v.call s j in
      rw (eq-eqb (suc j) v.reach.n o) (ap end (left_side v s t w 0 j (omega arith)) ∙ sym (flip_twice (end (mirror x)))
      ∙ ap flip (sym (ends.right_turned v.reach.face law v.call.dry v.call.right x)))

module _ (v : Surveys) (law : Lawful v.reach.face) (s t : State) (w : Turned v s t) where
  abbrev here : ℕ → Flux
  here = face_at v.reach v.call s

  abbrev there : ℕ → Flux
  there = face_at (other_reach v) (other_call v) t

  pub face_turned : 0 < v.reach.n → (i j : ℕ) → i + j ≡ v.reach.n → there i ≡ flip (here j)
  unfolding cross_at cross_right
  face_turned z zero zero o = let y : ⊥ = omega arith in absurd y
  face_turned z zero (suc j) o = first_face v law s t w j (omega arith)
  face_turned z (suc i) zero o =
      sym (flip_twice (there (suc i))) ∙ ap flip (sym (first_face (other v) law t s (turned_back v s t w) i (omega arith)))
  face_turned z (suc i) (suc j) o =
      rw (not_last i v.reach.n (omega arith), not_last j v.reach.n (omega arith))
      (ap₂ v.reach.face (right_side v s t w i (suc j) (omega arith)) (left_side v s t w (suc i) j (omega arith))
      ∙ law.mirrored (at_right v.reach v.call s j) (at_left v.reach v.call s (suc j)))

  pub stage_turned : Turned v (stage v.reach v.call s) (stage (other_reach v) (other_call v) t)
  unfolding stage cross_at
  stage_turned i j o =
      let work = update v.reach.dx v.call.dt v.call.dry in let b = under v.reach j in
      ap₂ (λ (b : Bed) (x : Cell). work b x (there i) (there (suc i))) (under_turned v i j o) (w i j o)
      ∙ ap₂ (work (turned_bed b) (turned_cell (s j)))
      (face_turned (omega arith) i (suc j) (omega arith)) (face_turned (omega arith) (suc i) j (omega arith))
      ∙ update_turned b (s j) (here j) (here (suc j)) v.reach.dx v.call.dt v.call.dry
