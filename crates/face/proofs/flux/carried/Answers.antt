-- Between equal depths at rest only their square crosses.
use mathlib.Core.Path.{◌≡◌, sym, ◌∙◌}
use mathlib.Core.Bool.{true, ◌&&◌}
use mathlib.Core.List.{[], ◌∷◌}
use lib.IntN.{pos}
use mir.Facts.{to_z-of_z}
use Rattle.whole.specs.Flags.{and_l, and_r}
use Rattle.whole.specs.Parts.{fit}
use Rattle.whole.specs.Equal.{eq_z, eq_yes}
use Rattle.whole.specs.Machine.{v, ◌⊗◌, sized, need, value}
use Rattle.rules.specs.Face.{Side, face}
use Rattle.rules.specs.Lawful.{resting}
use Rattle.rules.proofs.Laws.Sizes.{depth_size}
use Rattle.rules.proofs.Laws.Face as law
use Rattle.face.proofs.Made.{made}
use Rattle.face.proofs.flux.carried.Goals as goal

resting_is : (l r : Side) → (eq_z l.h r.h && eq_z l.u (pos 0) && eq_z r.u (pos 0)) ≡ true → face (resting l.h) (resting l.h) ≡ face l r
resting_is l r e =
    let p = and_l (eq_z l.h r.h && eq_z l.u (pos 0)) (eq_z r.u (pos 0)) e in
    rw (
      eq_yes l.h r.h (and_l (eq_z l.h r.h) (eq_z l.u (pos 0)) p),
      eq_yes l.u (pos 0) (and_r (eq_z l.h r.h) (eq_z l.u (pos 0)) p),
      eq_yes r.u (pos 0) (and_r (eq_z l.h r.h && eq_z l.u (pos 0)) (eq_z r.u (pos 0)) e),
    )

pub overflow_mul-result : goal.overflow_mul-result
overflow_mul-result c = need (sized (depth_size c.requires.0.sound) tt ∷ []) (v 0 ⊗ v 0) tt

pub returns-then-still : goal.returns-then-still
returns-then-still c =
    let l = c.requires.0 in let h = c.args.l.side.h in
    let r = law.still h l.sound.least in
    made (face (resting h) (resting h)) (sym r.F≡) (value (sized (depth_size l.sound) tt ∷ []) (v 0 ⊗ v 0) tt ∙ sym r.K≡) (sym r.A≡)
    (to_z-of_z (fit l.a_in tt) ∙ l.wave_is ∙ sym (law.still_top h l.sound.least))
    ∙ resting_is _ _ (sym c.still.ensures ∙ c.if-still.true)
