-- An inflow's mass runs leftward; beside another end the outer side comes second.
use Rattle.std.proofs.Common.{sym, ◌∙◌, ap, subst, [], ◌∷◌, ℤ, pos, ◌-ℤ◌, eq-eqb, ne_eqb, arith}
use mir.Facts.{to_z-of_z}
use Rattle.whole.specs.Parts.{Within}
use Rattle.whole.specs.Difference.{at, lit, ◌⊟◌, ⊖, eq! }
use Rattle.whole.specs.Machine.{v, k, ◌⊝◌, value, sized}
use Rattle.rules.specs.Face.{face}
use Rattle.rules.specs.Ends.{right_end}
use Rattle.rules.specs.Laws.Sizes.{Sound}
use Rattle.rules.proofs.Laws.EndSizes.{inflow_most, outer_sound}
use Rattle.reach.specs.Told.{end_in}
use Rattle.face.specs.Sides.{side_in}
use Rattle.stage.proofs.ends.right_end.Goals as goal

pub returns-then-end-eq-INFLOW : goal.returns-then-end-eq-INFLOW
unfolding right_end
returns-then-end-eq-INFLOW c =
    let q = pos c.args.end.q in
    let q_in = subst (Within 8388608) (sym c.from.ensures) (inflow_most (end_in c.args.end) c.requires.q_le_largest_inflow) in
    let mass = value (sized q_in tt ∷ []) (k (pos 0) ⊝ v 0) tt ∙ ap (λ (z : ℤ). pos 0 -ℤ z) c.from.ensures ∙ eq! (lit 0 ⊟ at q) (⊖ (at q)) (omega arith) in
    rw (eq-eqb _ _ c.if-end-eq-INFLOW.true) (rw (mass, to_z-of_z c.ranges.dry) at c.inflow.ensures)

pub crossing-requires : goal.crossing-requires
crossing-requires c =
    let x = c.requires.sound in (x, subst Sound (sym c.outer.ensures) (outer_sound c.args.end.kind _ x))

pub returns : goal.returns
unfolding right_end
returns c = rw (ne_eqb _ _ c.if-end-eq-INFLOW.false) (c.crossing.ensures ∙ ap (face (side_in c.args.x)) c.outer.ensures)
