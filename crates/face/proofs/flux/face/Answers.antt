-- Where both depths have a wave speed and both speeds fit, both sides are within the limits, and the answer is the rule's.
use mathlib.Core.Path.{◌≡◌, sym, ◌∙◌, ap}
use mathlib.Core.Bool.{Bool, true}
use lib.IntN.{ℤ}
use mir.Syntax.{w64}
use mir.Val.{SFits, to_z, of_z}
use mir.Facts.{to_z-of_z}
use borrow.Author.Rules.{rules}
use Rattle.std.specs.Prelude.{Some}
use Rattle.whole.specs.Machine.{back_in}
use Rattle.rules.proofs.Laws.Sizes.{wave_size}
use Rattle.speeds.specs.Given.{speed_fits, wave_given}
use Rattle.speeds.proofs.Fits.{wave_told}
use Rattle.face.specs.declared.sides.Side.{Side}
use Rattle.face.specs.Sides.{side_in}
use Rattle.face.specs.Waves.{Known}
use Rattle.face.proofs.Fits.{side_sound, fitting, face_given_lem}
use Rattle.face.proofs.flux.face.Goals as goal

known : (x : Side) {a : ℤ} {b : Bool} → SFits w64 x.h → SFits w64 x.u → b ≡ speed_fits (to_z w64 (of_z w64 x.u)) → b ≡ true
    → Some a ≡ wave_given (to_z w64 (of_z w64 x.h)) → Known (record { side = x; a = to_z w64 (of_z w64 a) })
known x h u e t g =
    let w = wave_told x.h _ (rw (to_z-of_z h) at g) in
    let s = side_sound (side_in x) (fitting (side_in x) w.0 (rw (to_z-of_z u) at (sym e ∙ t))) in
    let a = back_in w.1 (wave_size s) tt in
    record { sound = s; wave_is = a; a_in = rw a (wave_size s) }

pub wave_beside-requires : goal.wave_beside-requires
wave_beside-requires c = known c.args.l (search rules) (search rules) c.speed_fits.ensures c.if-not-speed_fits.false c.in_ok-al.ensures

pub carried-requires : goal.carried-requires
carried-requires c = (
  known c.args.l (search rules) (search rules) c.speed_fits.ensures c.if-not-speed_fits.false c.in_ok-al.ensures,
  known c.args.r (search rules) (search rules) c.speed_fits-else-not-speed_fits.ensures c.if-not-speed_fits-2.false
      c.in_ok-ar.ensures,
)

pub returns : goal.returns
returns c =
    let p = known c.args.l (search rules) (search rules) c.speed_fits.ensures c.if-not-speed_fits.false c.in_ok-al.ensures in
    let q = known c.args.r (search rules) (search rules) c.speed_fits-else-not-speed_fits.ensures c.if-not-speed_fits-2.false
    c.in_ok-ar.ensures in
    ap Some c.carried.ensures ∙ sym (face_given_lem _ _ p.sound q.sound)
