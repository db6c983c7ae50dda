-- The rows that the step keeps are the rule's: its cells, its faces, and its updates.
-- Assumes nothing.
use Rattle.std.specs.Prelude.{◌≡◌, refl, ℤ, pos}
use Rattle.std.proofs.Common.{◌∙◌, arith}
use Rattle.std.proofs.Math.Path.{ap}
use mathlib.Core.List.{List}
use Prim.Native.Nat.{ℕ, suc, ◌<◌}
use Rattle.std.proofs.Math.ListN.{get_or}
use Rattle.tables.specs.Rows.{Written}
use Rattle.rules.specs.Face.{Flux}
use Rattle.rules.specs.Shown.{cross_at}
use Rattle.rules.proofs.Laws.Shown.{at_same}
use Rattle.sill_rules.specs.Reach.{State, hl, hr, at_left, at_right}
use Rattle.sill_rules.specs.Step.{face_right, face_at, push, update, stage, dried_pool, dried}
use Rattle.sill.specs.declared.rows.Call.{Call}
use Rattle.sill.specs.declared.rows.Row.{Row}
use Rattle.sill.specs.declared.rows.FaceRow.{FaceRow}
use Rattle.sill.specs.Told.{reach_in, call_in}
use Rattle.sill.specs.Rows.{row_at, left_of, right_of, no_row, no_face, face_row, shown_in, cross_in, face_row_at}
use Rattle.sill.specs.Rows.{thrust, push_by, update_by, end_at}

-- an update from rows is the rule's
update_is : (call : Call) (bed : List ℤ) (ρ : ℕ → ℤ) (s : State) (i : ℕ) (l f : Flux) → let r = reach_in call bed in
    update_by call.dx call.dt (row_at r call.dry s i) (face_row call.dx call.dt l) (face_row call.dx call.dt f)
    ≡ update call.dx call.dt (hl r s i) (hr r s i) (s i) l f
unfolding update_by thrust push_by update push
update_is call bed ρ s i l f = refl

-- ---- of a table b of the cells of s
module _ (call : Call) (bed : List ℤ) (ρ : ℕ → ℤ) (s : State) (some : 0 < call.n) (b : List Row)
    (rows : Written no_row b call.n (row_at (reach_in call bed) call.dry s)) where
  -- what crosses its faces is what crosses the faces of s
  pub cross_is : (i : ℕ) → i < suc call.n → cross_in call b i ≡ face_at (reach_in call bed) (call_in call ρ) s i
  cross_is = let r = reach_in call bed in let c = call_in call ρ in
      at_same (shown_in call b) (at_left r c s) (at_right r c s)
      (λ i l. ap left_of (rows i l)) (λ i l. ap right_of (rows i l)) some

  -- and with the rows f of those faces each cell at the end is the rule's
  pub end_is : (f : List FaceRow) → Written no_face f (suc call.n) (face_row_at call b) → (i : ℕ) → i < call.n
      → end_at call bed b f i ≡ dried (reach_in call bed) (call_in call ρ) (stage (reach_in call bed) (call_in call ρ) s) i
  unfolding dried stage cross_at
  end_is f w i l =
      let r = reach_in call bed in let c = call_in call ρ in
      let face : (j : ℕ) → j < suc call.n → get_or f j no_face ≡ face_row call.dx call.dt (face_at r c s j) =
      λ j m. w j m ∙ ap (face_row call.dx call.dt) (cross_is j m) in
      ap (dried_pool call.dry (get_or bed i (pos 0)))
      ((λ k. update_by call.dx call.dt (rows i l k) (face i (omega arith) k) (face (suc i) (omega arith) k))
      ∙ update_is call bed ρ s i (face_at r c s i) (face_right r c s i))
