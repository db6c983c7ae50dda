use mathlib.Core.Path.{◌∙◌, ap₂}
use Rattle.whole.specs.Parts.{fit}
use Rattle.whole.specs.Choice.{max_z}
use Rattle.whole.specs.Machine.{g_var, back64}
use Rattle.reach.specs.Size.{sized}
use Rattle.rules.specs.Face.{top}
use Rattle.face.proofs.Choice.{max_is}
use Rattle.face.proofs.flux.top_speed.Goals as goal

pub returns : goal.returns
unfolding top
returns c =
    let p = c.requires.sound.0 in let q = c.requires.sound.1 in let b = c.requires.bounded in
    back64 c.max-3.type_inv (c.max-3.ensures.value ∙ max_is _ _ ∙ ap₂ max_z
    (back64 c.max-2.type_inv (c.max-2.ensures.value ∙ max_is _ _ ∙ ap₂ max_z
    (back64 c.max.type_inv (c.max.ensures.value ∙ max_is _ _ ∙ ap₂ max_z
    (back64 c.size.type_inv (sized (g_var (fit b.left_in tt) b.left_in) c.size.ensures tt))
    (back64 c.size-2.type_inv (sized (g_var (fit b.right_in tt) b.right_in) c.size-2.ensures tt))))
    (back64 c.size-3.type_inv (sized (g_var (fit p.speed tt) p.speed) c.size-3.ensures tt))))
    (back64 c.size-4.type_inv (sized (g_var (fit q.speed tt) q.speed) c.size-4.ensures tt)))
