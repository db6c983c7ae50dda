-- The face's answer, as a number and what is written.
use Rattle.std.proofs.Common.{refl, to_z-of_z, rules}
use Rattle.whole.specs.Machine.{back}
use Rattle.editor.specs.Told.{face_code, flux_into}
use Rattle.editor.proofs.bassoonsun_face.Goals as goal

pub returns-in-Some : goal.returns-in-Some
unfolding face_code flux_into
returns-in-Some c =
    let x = c.in-Some.carried in
    let is = rw (to_z-of_z c.ranges.hl, to_z-of_z c.ranges.ul, to_z-of_z c.ranges.hr, to_z-of_z c.ranges.ur) at c.in-Some.ensures in
    rw (back {z = x.f} (search rules), back {z = x.k} (search rules), back {z = x.a} (search rules), back {z = x.s} (search rules), ← is)
    (record { number = refl; flux = refl })

pub returns-in-None : goal.returns-in-None
unfolding face_code flux_into
returns-in-None c =
    let is = rw (to_z-of_z c.ranges.hl, to_z-of_z c.ranges.ul, to_z-of_z c.ranges.hr, to_z-of_z c.ranges.ur) at c.in-None.ensures in
    rw (← is) (record { number = refl; flux = refl })
