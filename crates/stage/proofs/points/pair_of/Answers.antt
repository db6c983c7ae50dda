-- The speeds at two places of a cell, and the sum of what they carry.
use Rattle.std.specs.Prelude.{List, [], ◌∷◌, get_or, ℤ, pos, ◌+ℤ◌, ◌-ℤ◌}
use Rattle.std.proofs.Common.{◌∙◌, ap, arith}
use mir.Facts.{to_z-of_z}
use Rattle.whole.specs.Machine.{back, back64}
use Rattle.rules.specs.Stage.{carried}
use Rattle.rules.proofs.Laws.Speeds.{speed_size}
use Rattle.stage.specs.Laws.Around.{ql_fits, qr_fits}
use Rattle.stage.proofs.points.pair_of.Goals as goal

pub carried_both-requires-clause-up_to : goal.carried_both-requires-clause-up_to
carried_both-requires-clause-up_to c =
    let a = c.args in let r = c.requires.around in
    let row = simp (to_z-of_z, c.ranges.m, c.ranges.d, c.ranges.p, c.ranges.q, c.ranges.dry) at c.places_of-s.ensures in
    simp (to_z-of_z, c.ranges.p, c.ranges.q, ql_fits r, qr_fits r)
    (rw (back {z = get_or c.places_of-s.result 1 (pos 0)} (omega arith), row)
    (r.ql, speed_size a.dry (a.p -ℤ a.q) (a.m -ℤ a.d) c.requires.dry_depth.least r.ql))

pub carried_both-requires-clause-up_to_2 : goal.carried_both-requires-clause-up_to_2
carried_both-requires-clause-up_to_2 c =
    let a = c.args in let r = c.requires.around in
    let row = simp (to_z-of_z, c.ranges.m, c.ranges.d, c.ranges.p, c.ranges.q, c.ranges.dry) at c.places_of-s.ensures in
    simp (to_z-of_z, c.ranges.p, c.ranges.q, ql_fits r, qr_fits r)
    (rw (back {z = get_or c.places_of-s.result 3 (pos 0)} (omega arith), row)
    (r.qr, speed_size a.dry (a.p +ℤ a.q) (a.m +ℤ a.d) c.requires.dry_depth.least r.qr))

pub returns : goal.returns
unfolding carried
returns c =
    let r = c.requires.around in
    let row = simp (to_z-of_z, c.ranges.m, c.ranges.d, c.ranges.p, c.ranges.q, c.ranges.dry) at c.places_of-s.ensures in
    let u = back {z = get_or c.places_of-s.result 1 (pos 0)} (omega arith) ∙ ap (λ (t : List ℤ). get_or t 1 (pos 0)) row in
    let w = back {z = get_or c.places_of-s.result 3 (pos 0)} (omega arith) ∙ ap (λ (t : List ℤ). get_or t 3 (pos 0)) row in
    let g = rw (u, w) at (simp (to_z-of_z, c.ranges.p, c.ranges.q, ql_fits r, qr_fits r) at c.carried_both.ensures) in
    λ i. u i ∷ w i ∷ back64 c.carried_both.type_inv g i ∷ []
