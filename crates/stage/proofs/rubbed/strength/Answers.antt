-- Within the limits friction has a strength, and it is the rule's.
use Rattle.std.proofs.Common.{◌≡◌, refl, ◌∙◌, sym, ℤ, pos, Some}
use mir.Facts.{to_z-of_z}
use Rattle.whole.specs.Parts.{Within, fit, b_nonneg, le_trans, le_lit}
use Rattle.whole.specs.Choice.{within_past}
use Rattle.whole.specs.Machine.{back64}
use Rattle.rules.specs.Face.{speed}
use Rattle.rules.specs.Friction.{drag}
use Rattle.reach.specs.Ranges.{DryDepth}
use Rattle.friction.proofs.Fits.{strength_given_lem}
use Rattle.stage.proofs.rubbed.strength.Goals as goal

dry_size : {d : ℤ} → DryDepth d → Within 64 d
dry_size p = b_nonneg (le_trans (le_lit (pos 0) (pos 1) tt) p.least) p.most

strong : (c : goal.After-strength) → c.strength.result ≡ Some (drag c.args.call.dt c.args.f c.args.h (speed c.args.call.dry c.args.q c.args.h))
strong c =
    let p = c.requires in let a = c.args in let u = speed a.call.dry a.q a.h in let slow = within_past 131072 u p.h_value in
    let dt = to_z-of_z (fit p.pos_bound.1 tt) in let dry = to_z-of_z (fit (dry_size p.up_to.1) tt) in
    let u_is : c.speed_of.result ≡ u = simp (to_z-of_z, c.ranges.q, c.ranges.h, dry) at c.speed_of.ensures in
    (simp (to_z-of_z, c.ranges.f, c.ranges.h, dt, back64 c.speed_of.type_inv u_is) at c.strength.ensures)
    ∙ strength_given_lem a.call.dt a.f a.h u p.pos_bound p.pos_bound_2 p.least_dry_lt_h slow

pub unwrap-requires : goal.unwrap-requires
unwrap-requires c = rw (strong c) refl

pub returns : goal.returns
returns c =
    let a = c.args in let told = sym c.unwrap.ensures ∙ strong c.before in
    let is : c.unwrap.result ≡ drag a.call.dt a.f a.h (speed a.call.dry a.q a.h) = cc in back64 c.unwrap.type_inv is
