-- Both speeds of the sum are small, and the choice is the rule's.
use Rattle.std.proofs.Common.{◌∙◌, ◌+ℤ◌}
use mir.Facts.{to_z-of_z}
use Rattle.whole.specs.Parts.{fit}
use Rattle.whole.specs.Choice.{size_z, b_size}
use Rattle.whole.specs.Machine.{Got, g_var, g_add, g_fits, g_back, rd, back64}
use Rattle.rules.specs.Face.{wave}
use Rattle.rules.proofs.Laws.Sizes.{depth_size, wave_size}
use Rattle.reach.specs.Size.{sized}
use Rattle.face.proofs.Choice.{max_is}
use Rattle.stage.proofs.ends.inflow_top.Goals as goal

top : (c : goal.After-wave_of) → Got 233704 (rd c.size.result +ℤ rd c.wave_of.result) (size_z c.args.x.u +ℤ wave c.args.x.h)
top c = let x = c.requires.sound in
    g_add
    (record {
      same = back64 c.size.type_inv (sized (g_var (fit x.speed tt) x.speed) c.size.ensures tt);
      bound = b_size c.args.x.u x.speed;
    })
    (record { same = back64 c.wave_of.type_inv (rw (to_z-of_z (fit (depth_size x) tt)) at c.wave_of.ensures); bound = wave_size x })

pub overflow_add-top : goal.overflow_add-top
overflow_add-top c = g_fits (top c) tt

pub returns : goal.returns
returns c =
    let t = g_back (top c.before) tt in
    let e = rw (to_z-of_z c.ranges.v, t.same) at c.max.ensures.value in
    back64 c.max.type_inv (e ∙ max_is c.args.v (size_z c.args.x.u +ℤ wave c.args.x.h))
