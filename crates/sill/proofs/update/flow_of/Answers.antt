-- What both faces carry and the thrust are added to the discharge, and each sum fits.
use Rattle.std.proofs.Common.{◌≡◌, ◌∙◌, ap, sym, subst, List, [], ◌∷◌, ℤ, ◌+ℤ◌}
use mir.Facts.{to_z-of_z}
use Rattle.whole.specs.Machine.{X, v, ◌⊕◌, ◌⊝◌, ◌⊗◌, ◌⊘◌, Entry, sized, ideal, need, value, divisor}
use Rattle.reach.specs.Ranges.{UpTo}
use Rattle.sill.specs.declared.rows.Call.{Call}
use Rattle.sill.specs.declared.rows.Row as cells
use Rattle.sill.specs.declared.rows.FaceRow as faces
use Rattle.sill.specs.Ranges.{most_thrust, Numbers, Row, FaceRow}
use Rattle.sill.specs.Laws.PoolSizes.{thrust_size}
use Rattle.sill.specs.Rows.{thrust}
use Rattle.sill.proofs.update.flow_of.Goals as goal

-- the five numbers of the line, in their order, and then others
abbrev and_then : {x : cells.Row} {l f : faces.FaceRow} {call : Call} → Row x × FaceRow l × FaceRow f → Numbers call → List Entry
    → List Entry
and_then rows num more =
    sized rows.0.q tt ∷ sized rows.1.A tt ∷ sized rows.2.A tt ∷ sized num.dx_in tt ∷ sized num.dt_in tt ∷ more

abbrev env : {x : cells.Row} {l f : faces.FaceRow} {call : Call} → Row x × FaceRow l × FaceRow f → Numbers call → List Entry
env rows num = and_then rows num []

abbrev carried : X
carried = (v 1 ⊝ v 2) ⊗ v 4 ⊘ v 3

pub overflow_mul-result : goal.overflow_mul-result
overflow_mul-result c = need (env c.requires.row c.requires.numbers) ((v 1 ⊝ v 2) ⊗ v 4) tt

pub nonzero_div-result : goal.nonzero_div-result
nonzero_div-result c =
    let num = c.requires.numbers in let e = env c.requires.row num in
    (divisor e (v 3) tt num.dx_pos, need e carried tt)

pub overflow_add-result : goal.overflow_add-result
overflow_add-result c = need (env c.requires.row c.requires.numbers) (v 0 ⊕ carried) tt

-- the thrust, and its size
module _ (c : goal.After-thrust_of) where
  abbrev moved : c.thrust_of.result ≡ thrust c.args.e c.args.call.dx c.args.call.dt
  moved = rw (to_z-of_z c.ranges.e) at c.thrust_of.ensures

  abbrev after : List Entry
  after =
      let num = c.requires.numbers in
      let size : UpTo most_thrust c.thrust_of.result =
      subst (UpTo most_thrust) (sym moved) (thrust_size _ _ _ c.requires.up_to num.dx_pos num.dt_in) in
      and_then c.requires.row num (sized size tt ∷ [])

pub overflow_add-result-2 : goal.overflow_add-result-2
overflow_add-result-2 c = need (after c) (v 0 ⊕ carried ⊕ v 5) tt

pub returns : goal.returns
returns c =
    let e = env c.requires.row c.requires.numbers in
    value (after c) (v 0 ⊕ carried ⊕ v 5) tt ∙ ap (λ (z : ℤ). ideal e (v 0 ⊕ carried) +ℤ z) (moved c)
