-- What the dry depth of a call decides, in each place that reads it: water no deeper has no speed, and once finished no discharge.
-- Who is spared by it stands in Limiter.
-- Assumes nothing.
use Rattle.std.specs.Prelude.{◌≡◌, false, ℕ, ℤ, pos, ◌+ℤ◌, ◌-ℤ◌, ◌*ℤ◌, ◌≤ℤ◌}
use Rattle.std.proofs.Common.{◌∙◌, ap, arith}
use Rattle.std.specs.Int.Signed.{quot_z}
use Rattle.whole.specs.Difference.{at, lit, ◌⊠◌, eq! }
use Rattle.whole.specs.Quotient.{quot_nil}
use Rattle.whole.specs.Choice.{size_z}
use Rattle.whole.specs.Tests.{yes_le}
use Rattle.tables.specs.Cells.{Cell}
use Rattle.rules.specs.Face.{speed}
use Rattle.rules.specs.Reach.{Reach, Call, State, Bed, under, h0, hl, hr, side_l, side_r}
use Rattle.rules.specs.Stage.{at_left, at_right, face_right, face_at, depth_before, depth_behind, carried, gauss, tilt, update, stage}
use Rattle.rules.specs.Finishing.{limit, cut, dried, finish}
use Rattle.rules.specs.Step.{rubbed}
use Rattle.rules.specs.Refusals.{fast_cell, fast_friction, fast_points, fast_gauss}
use Rattle.rules.proofs.Laws.Speeds.{speed_dry}
use Rattle.rules.proofs.Laws.Friction.{rubbed_dry}

-- ---- no speed, and so no momentum
still : (d q h : ℤ) → h ≤ℤ d → speed d q h ≡ pos 0
still d q h l = speed_dry d q h (yes_le h d l)

carries_none : (d q h : ℤ) → h ≤ℤ d → carried d q h ≡ pos 0
unfolding carried
carries_none d q h l =
    ap (λ (u : ℤ). quot_z (q *ℤ u) (pos 4096)) (still d q h l)
    ∙ ap (λ (z : ℤ). quot_z z (pos 4096)) (eq! (at q ⊠ lit 0) (lit 0) (omega arith)) ∙ quot_nil (pos 4096)

-- ---- cell i of a state, in a call
module _ (r : Reach) (c : Call) (s : State) (i : ℕ) where
  abbrev b : Bed
  b = under r i

  abbrev x : Cell
  x = s i

  -- a face no deeper has no speed,
  pub still_left : hl b x ≤ℤ c.dry → (at_left r c s i).u ≡ pos 0
  unfolding side_l
  still_left l = still c.dry _ (hl b x) l

  pub still_right : hr b x ≤ℤ c.dry → (at_right r c s i).u ≡ pos 0
  unfolding side_r
  still_right l = still c.dry _ (hr b x) l

  -- and Gauss points no deeper have none to check, and 0 stands for what they carry in the discharge's slope
  module _ (before : depth_before b x ≤ℤ c.dry) (behind : depth_behind b x ≤ℤ c.dry) where
    pub still_checked : fast_gauss r c s i ≡ false
    unfolding fast_gauss fast_points size_z
    still_checked = rw (still c.dry _ (depth_before b x) before, still c.dry _ (depth_behind b x) behind)

    pub still_points : let l = face_at r c s i in let f = face_right r c s i in
        (stage r c s i).q1
        ≡ x.q1 -ℤ quot_z (pos 3 *ℤ (f.A +ℤ l.A -ℤ pos 0) *ℤ c.dt) r.dx
        -ℤ quot_z (pos 981 *ℤ tilt b x l f *ℤ c.dt) (pos 819200 *ℤ r.dx)
    unfolding stage update gauss
    still_points = rw (carries_none c.dry _ (depth_before b x) before, carries_none c.dry _ (depth_behind b x) behind)

  -- a cell no deeper is not checked by friction, nor slowed,
  module _ (shallows : h0 b x ≤ℤ c.dry) where
    pub friction_checks_none : fast_friction r c s i ≡ false
    unfolding fast_friction fast_cell size_z
    friction_checks_none = rw (still c.dry x.q0 (h0 b x) shallows)

    pub friction_leaves : rubbed r c s i ≡ x
    unfolding rubbed
    friction_leaves = rubbed_dry c.dt c.dry (c.rough i) b x (yes_le (h0 b x) c.dry shallows)

  -- and a finished cell no deeper has no discharge
  pub finished_calm : h0 b (finish r c s i) ≤ℤ c.dry → ((finish r c s i).q0 ≡ pos 0) × ((finish r c s i).q1 ≡ pos 0)
  unfolding finish dried cut limit h0
  finished_calm l = let e = yes_le (h0 b x) c.dry l in (rw e, rw e)
