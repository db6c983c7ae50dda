-- Each line is given numbers of the size that it asks for, and the four lines are the rule's.
use mathlib.Core.List.{[], ◌∷◌}
use mir.Facts.{to_z-of_z}
use Rattle.whole.specs.Machine.{back, back64}
use Rattle.stage.specs.Laws.CellSizes.{cell_sizes}
use Rattle.stage.specs.Laws.UpdateSizes.{pressed, push_size, tilt_size}
use Rattle.stage.specs.Rows.{slope_of, thrust, update_by}
use Rattle.stage.proofs.update.updated.Goals as goal

pub level_mean-e0-requires : goal.level_mean-e0-requires
level_mean-e0-requires c = let p = c.requires in record { up_to = (cell_sizes p.inside).e0; row = p.row }

pub level_slope-e1-requires : goal.level_slope-e1-requires
level_slope-e1-requires c =
    let s = c.before.before in let p = s.requires in let q = cell_sizes p.inside in
    record { up_to = (q.e1, q.q0); row = p.row; numbers = p.numbers }

pub flow_mean-q0-requires : goal.flow_mean-q0-requires
flow_mean-q0-requires c =
    let h = c.before.before.before in let s = h.before in let p = s.requires in
    rw (back c.flow_mean-arg-1.given, h.pressures-p.ensures)
    record { up_to = ((cell_sizes p.inside).q0, push_size (pressed p.inside p.row.0.K p.row.1.K)); row = p.row; numbers = p.numbers }

pub flow_slope-q1-requires : goal.flow_slope-q1-requires
flow_slope-q1-requires c =
    let h = c.before.before.before.before.before in let s = h.before in let p = s.requires in
    rw (to_z-of_z s.ranges.g, back c.flow_slope-arg-1.given, h.pressures-p.ensures)
    record { up_to = ((cell_sizes p.inside).q1, p.up_to, tilt_size (pressed p.inside p.row.0.K p.row.1.K)); row = p.row; numbers = p.numbers }

pub returns : goal.returns
unfolding update_by slope_of thrust
returns c =
    let f2 = c.before in
    let m = f2.before in
    let f1 = m.before in
    let b = f1.before in
    let a = b.before in
    let h = a.before in
    let s = h.before in
    let q0 = rw (back f1.flow_mean-arg-1.given, h.pressures-p.ensures) at m.flow_mean-q0.ensures in
    let q1 = rw (to_z-of_z s.ranges.g, back f2.flow_slope-arg-1.given, h.pressures-p.ensures) at c.flow_slope-q1.ensures in
    λ j. back64 a.level_mean-e0.type_inv a.level_mean-e0.ensures j ∷ back64 b.level_slope-e1.type_inv b.level_slope-e1.ensures j
    ∷ back64 m.flow_mean-q0.type_inv q0 j ∷ back64 c.flow_slope-q1.type_inv q1 j ∷ []
