-- The mass is passed on; the other numbers are of the inflow, its speed and the inner side.
use Rattle.std.proofs.Common.{◌≡◌, ◌∙◌, sym, ap₂, subst, List, [], ◌∷◌, ◌≤◌, ℤ, pos, ◌*ℤ◌, ◌≤ℤ◌}
use Rattle.std.specs.Int.Signed.{quot_z}
use mir.Facts.{to_z-of_z}
use Rattle.whole.specs.Parts.{Within, fit}
use Rattle.whole.specs.Machine.{X, v, k, ◌⊗◌, ◌⊘◌, Entry, need, value, back, back64, sized}
use Rattle.rules.specs.Limits.{least_dry, largest_inflow}
use Rattle.rules.specs.Face.{Side}
use Rattle.rules.specs.Ends.{End, inflow_speed, inflow}
use Rattle.rules.proofs.Laws.Speeds.{speed_size}
use Rattle.rules.proofs.Laws.Sizes.{depth_size}
use Rattle.rules.proofs.Laws.EndSizes.{inflow_most}
use Rattle.reach.specs.Told.{end_in}
use Rattle.face.specs.Sides.{side_in}
use Rattle.stage.proofs.ends.inflow.Goals as goal

-- the inflow's speed
speed_in : (e : End) (x : Side) (d : ℤ) → e.q ≤ largest_inflow → least_dry ≤ℤ d → Within 17179869184 (inflow_speed d e x)
unfolding inflow_speed
speed_in e x d q l = speed_size d (pos e.q) x.h l (inflow_most e q)

pub inflow_top-s-requires-clause-up_to : goal.inflow_top-s-requires-clause-up_to
inflow_top-s-requires-clause-up_to c =
    let speed = speed_in (end_in c.args.end) (side_in c.args.x) c.args.dry c.requires.q_le_largest_inflow c.requires.dry_depth.least in
    rw (rw (to_z-of_z c.ranges.dry) at c.inflow_speed-v.ensures, to_z-of_z (fit speed tt)) speed

-- ---- the two products
pub overflow_mul-result : goal.overflow_mul-result
overflow_mul-result c = need (sized (depth_size c.requires.sound) tt ∷ []) (v 0 ⊗ v 0) tt

module _ (c : goal.After-from) where
  speed : Within 17179869184 (inflow_speed c.args.dry (end_in c.args.end) (side_in c.args.x))
  speed = speed_in (end_in c.args.end) (side_in c.args.x) c.args.dry c.requires.q_le_largest_inflow c.requires.dry_depth.least

  speed_is : c.inflow_speed-v.result ≡ inflow_speed c.args.dry (end_in c.args.end) (side_in c.args.x)
  speed_is = rw (to_z-of_z c.ranges.dry) at c.inflow_speed-v.ensures

  abbrev env : List Entry
  env =
      sized (depth_size c.requires.sound) tt
      ∷ sized (subst (Within 8388608) (sym c.from.ensures) (inflow_most (end_in c.args.end) c.requires.q_le_largest_inflow)) tt
      ∷ sized (subst (Within 17179869184) (sym speed_is) speed) tt
      ∷ []

abbrev advection : X
advection = v 1 ⊗ v 2 ⊘ k (pos 4096)

pub overflow_mul-result-2 : goal.overflow_mul-result-2
overflow_mul-result-2 c = need (env c) (v 1 ⊗ v 2) tt

pub returns : goal.returns
unfolding inflow
returns c = λ j. record {
  F = back {z = c.args.f} c.ranges.f.sfits j;
  K = value (env c) (v 0 ⊗ v 0) tt j;
  A = (value (env c) advection tt ∙ ap₂ (λ (a b : ℤ). quot_z (a *ℤ b) (pos 4096)) c.from.ensures (speed_is c)) j;
  S = back64 c.inflow_top-s.type_inv (rw (speed_is c, to_z-of_z (fit (speed c) tt)) at c.inflow_top-s.ensures) j;
}
