-- What crosses the left end over the step: nothing at a wall, at an inflow Q·dt/dx, known before the step, and at any end but an inflow at
-- most 131,072 either way. The right end is the left one of the reach turned round, which stands above (crate survey).
-- Assumes nothing.
use Rattle.std.specs.Prelude.{◌≡◌, ◌<◌, ℤ, pos, ◌*ℤ◌, ◌≤ℤ◌}
use Rattle.std.proofs.Common.{◌∙◌, ap, ap₂, arith}
use borrow.Author.Tests.{ne_eqb}
use Rattle.std.specs.Int.Signed.{quot_z}
use Rattle.whole.specs.Parts.{Within, b_add, b_up}
use Rattle.whole.specs.Difference.{none_times}
use Rattle.whole.specs.Quotient.{b_quot_by, quot_none}
use Rattle.rules.specs.Limits.{deepest}
use Rattle.rules.specs.Face.{Side}
use Rattle.rules.specs.Lawful.{Lawful}
use Rattle.rules.specs.Shown.{cross_at, volume}
use Rattle.rules.specs.Reach.{Reach, Call, State, h0, h1, hl, side_l}
use Rattle.rules.specs.Ends.{inflow_kind, left_end}
use Rattle.rules.specs.Stage.{at_left, face_at}
use Rattle.rules.specs.Step.{rubbed, rubbed_cell, stage_one, half, carry}
use Rattle.rules.proofs.Laws.Shown.{InTime}
use Rattle.rules.proofs.Laws.Outer.{left_outer_most}
use Rattle.rules.proofs.Laws.Balance.{half_same}
use Rattle.rules.proofs.Laws.Positive.{Fine}
use Rattle.rules.proofs.Laws.Ends.{left_wall, left_inflow}
use Rattle.rules.proofs.Laws.Runs.{Accepted, in_depth, wet_stage_one}

-- where the same mass crosses in both stages, whatever state it is beside
left_mass : (r : Reach) (c : Call) (F : ℤ) → ((x : Side) → (left_end r.face c.dry c.left x).F ≡ F) → (s : State)
    → carry r c s 0 ≡ quot_z (F *ℤ c.dt) r.dx
unfolding carry cross_at volume
left_mass r c F e s = let v : ℤ → ℤ = λ x. quot_z (x *ℤ c.dt) r.dx in
    ap₂ half (ap v (e (at_left r c (rubbed r c s) 0))) (ap v (e (at_left r c (stage_one r c s) 0))) ∙ half_same (v F)

module _ (r : Reach) (law : Lawful r.face) (c : Call) where
  -- a wall
  pub left_shut : c.left.kind ≡ 0 → (s : State) → carry r c s 0 ≡ pos 0
  left_shut e s = left_mass r c (pos 0) (left_wall r.face law c.dry c.left e) s
      ∙ quot_none (pos 0 *ℤ c.dt) r.dx (none_times c.dt)

  -- an inflow
  pub left_brought : c.left.kind ≡ inflow_kind → (s : State) → carry r c s 0 ≡ quot_z (pos c.left.q *ℤ c.dt) r.dx
  left_brought e = left_mass r c (pos c.left.q) (left_inflow r.face law c.dry c.left e)

-- ---- at an end of another kind no more passes than half of the depth that stands there, so no more than half of the greatest
module _ (r : Reach) (law : Lawful r.face) (c : Call) (other : c.left.kind ≡ inflow_kind → ⊥) where
  -- in one stage
  left_stage : (s : State) → Fine r c → pos 0 ≤ℤ (at_left r c s 0).h → (at_left r c s 0).h ≤ℤ deepest → InTime r.dx c.dt (face_at r c s 0)
      → Within 131072 (volume r.dx c.dt (face_at r c s 0))
  unfolding cross_at left_end
  left_stage s ok wet low brief = let beside = ne_eqb c.left.kind inflow_kind other in
      let short = rw beside at brief in
      rw beside (left_outer_most r.face law c.left.kind r.dx c.dt ok.dx ok.dt (at_left r c s 0) wet low short)

  -- and so over the step
  pub left_most : (s : State) → 0 < r.n → Accepted r c s → Within 131072 (carry r c s 0)
  unfolding carry half side_l rubbed rubbed_cell hl h0 h1
  left_most s o a =
      let ok = a.early.fine in
      let one = left_stage (rubbed r c s) ok (a.early.wet 0 o).left (in_depth r s a.now 0 o) (a.early.brief 0 (omega arith)) in
      let two = left_stage (stage_one r c s) ok (wet_stage_one r law c s a.early 0 o).left
      (in_depth r (stage_one r c s) a.one 0 o) (a.brief 0 (omega arith)) in
      b_up 131072 (b_quot_by (pos 2) (b_add one two)) tt
