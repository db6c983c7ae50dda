-- The four numbers of a row: two depths, and the speed of each discharge at its depth.
use mathlib.Core.Path.{◌≡◌}
use mathlib.Core.List.{[], ◌∷◌}
use lib.IntN.{◌+ℤ◌, ◌-ℤ◌}
use mir.Facts.{to_z-of_z}
use Rattle.whole.specs.Machine.{back64}
use Rattle.rules.specs.Face.{speed}
use Rattle.stage.specs.Laws.Around.{left_fits, right_fits, ql_fits, qr_fits}
use Rattle.stage.proofs.sides.places_of.Goals as goal

pub overflow_sub-hl : goal.overflow_sub-hl
overflow_sub-hl c = simp (to_z-of_z, c.ranges.m, c.ranges.d) (left_fits c.requires.around)

pub overflow_add-hr : goal.overflow_add-hr
overflow_add-hr c = simp (to_z-of_z, c.ranges.m, c.ranges.d) (right_fits c.requires.around)

pub overflow_sub-p : goal.overflow_sub-p
overflow_sub-p c = simp (to_z-of_z, c.ranges.p, c.ranges.q) (ql_fits c.requires.around)

pub speed_of-ul-requires : goal.speed_of-ul-requires
speed_of-ul-requires c = let a = c.requires.around in
    simp (to_z-of_z, c.ranges.m, c.ranges.d, c.ranges.p, c.ranges.q, c.ranges.dry, ql_fits a, left_fits a)
    record { up_to = a.ql; depth_in = (a.left, a.left_most); dry_depth = c.requires.dry_depth }

pub overflow_add-p : goal.overflow_add-p
overflow_add-p c = let s = c.before in simp (to_z-of_z, s.ranges.p, s.ranges.q) (qr_fits s.requires.around)

pub speed_of-ur-requires : goal.speed_of-ur-requires
speed_of-ur-requires c =
    let s = c.before in let a = s.requires.around in
    simp (to_z-of_z, s.ranges.m, s.ranges.d, s.ranges.p, s.ranges.q, s.ranges.dry, qr_fits a, right_fits a)
    record { up_to = a.qr; depth_in = (a.right, a.right_most); dry_depth = s.requires.dry_depth }

pub returns : goal.returns
returns c =
    let b = c.before in let s = b.before in let a = s.args in let r = s.requires.around in
    let u : b.speed_of-ul.result ≡ speed a.dry (a.p -ℤ a.q) (a.m -ℤ a.d) =
    simp (to_z-of_z, s.ranges.m, s.ranges.d, s.ranges.p, s.ranges.q, s.ranges.dry, ql_fits r, left_fits r) at b.speed_of-ul.ensures in
    let w : c.speed_of-ur.result ≡ speed a.dry (a.p +ℤ a.q) (a.m +ℤ a.d) =
    simp (to_z-of_z, s.ranges.m, s.ranges.d, s.ranges.p, s.ranges.q, s.ranges.dry, qr_fits r, right_fits r) at c.speed_of-ur.ensures in
    simp (to_z-of_z, s.ranges.m, s.ranges.d, left_fits r, right_fits r) (λ i.
    (a.m -ℤ a.d) ∷ back64 b.speed_of-ul.type_inv u i ∷ (a.m +ℤ a.d) ∷ back64 c.speed_of-ur.type_inv w i ∷ [])
