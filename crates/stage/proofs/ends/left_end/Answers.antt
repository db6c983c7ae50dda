-- An inflow's mass is Q itself; beside another end the outer side comes first.
use Rattle.std.proofs.Common.{sym, ◌∙◌, ap, subst, eq-eqb, ne_eqb}
use mir.Facts.{to_z-of_z}
use Rattle.whole.specs.Parts.{fit}
use Rattle.rules.specs.Face.{Side, face}
use Rattle.rules.specs.Ends.{left_end}
use Rattle.rules.specs.Laws.Sizes.{Sound}
use Rattle.rules.proofs.Laws.EndSizes.{inflow_most, outer_sound}
use Rattle.reach.specs.Told.{end_in}
use Rattle.face.specs.Sides.{side_in}
use Rattle.stage.proofs.ends.left_end.Goals as goal

pub returns-then-end-eq-INFLOW : goal.returns-then-end-eq-INFLOW
unfolding left_end
returns-then-end-eq-INFLOW c =
    let q = inflow_most (end_in c.args.end) c.requires.q_le_largest_inflow in
    rw (eq-eqb _ _ c.if-end-eq-INFLOW.true) (rw (c.from.ensures, to_z-of_z (fit q tt), to_z-of_z c.ranges.dry) at c.inflow.ensures)

pub crossing-requires : goal.crossing-requires
crossing-requires c =
    let x = c.requires.sound in (subst Sound (sym c.outer.ensures) (outer_sound c.args.end.kind _ x), x)

pub returns : goal.returns
unfolding left_end
returns c =
    rw (ne_eqb _ _ c.if-end-eq-INFLOW.false) (c.crossing.ensures ∙ ap (λ (y : Side). face y (side_in c.args.x)) c.outer.ensures)
