-- What both faces carry and the thrust are added to the mean, and each sum fits.
use Rattle.std.specs.Prelude.{◌≡◌, List, [], ◌∷◌, ℤ, ◌+ℤ◌}
use Rattle.std.proofs.Common.{◌∙◌, ap, sym, subst}
use Rattle.std.proofs.lemmas.Int.{to_z-of_z}
use Rattle.std.specs.Int.{w64}
use Rattle.whole.specs.Machine.{X, v, ◌⊕◌, ◌⊝◌, ◌⊗◌, ◌⊘◌, Entry, ideal, need, value, divisor, sized}
use Rattle.rules.specs.Limits.{fullest}
use Rattle.reach.specs.declared.Reach.{Reach}
use Rattle.reach.specs.declared.Call.{Call}
use Rattle.reach.specs.Ranges.{UpTo, Numbers}
use Rattle.stage.specs.declared.rows.FaceRow.{FaceRow}
use Rattle.stage.specs.Ranges.{most_thrust, most_pressure, Row}
use Rattle.stage.specs.Laws.UpdateSizes.{thrust_size}
use Rattle.stage.specs.Rows.{thrust}
use Rattle.stage.proofs.update.flow_mean.Goals as goal

module _ {q0 : ℤ} {l f : FaceRow} {reach : Reach} {call : Call} (q : UpTo fullest q0) (rows : Row l × Row f)
    (num : Numbers reach call) where
  -- the five numbers of the line, in their order, and then others
  abbrev and_then : List Entry → List Entry
  and_then more = sized q tt ∷ sized rows.0.A tt ∷ sized rows.1.A tt ∷ sized num.dx_in tt ∷ sized num.dt_in tt ∷ more

  -- and the thrust
  abbrev all : {e a : ℤ} → UpTo most_pressure e → a ≡ thrust e reach.dx call.dt → List Entry
  all e is = and_then (sized (subst (UpTo most_thrust) (sym is) (thrust_size _ _ _ e num.dx_pos num.dt_in)) tt ∷ [])

abbrev carried : X
carried = (v 1 ⊝ v 2) ⊗ v 4 ⊘ v 3

pub overflow_mul-result : goal.overflow_mul-result
overflow_mul-result c = let p = c.requires in need (and_then p.up_to.0 p.row p.numbers []) ((v 1 ⊝ v 2) ⊗ v 4) tt

pub nonzero_div-result : goal.nonzero_div-result
nonzero_div-result c =
    let p = c.requires in let e = and_then p.up_to.0 p.row p.numbers [] in (divisor e (v 3) tt p.numbers.dx_pos, need e carried tt)

pub overflow_add-result : goal.overflow_add-result
overflow_add-result c = let p = c.requires in need (and_then p.up_to.0 p.row p.numbers []) (v 0 ⊕ carried) tt

pub overflow_add-result-2 : goal.overflow_add-result-2
overflow_add-result-2 c =
    let p = c.requires in let moved = rw (to_z-of_z w64 c.args.e c.ranges.e) at c.thrust_of.ensures in
    need (all p.up_to.0 p.row p.numbers p.up_to.1 moved) (v 0 ⊕ carried ⊕ v 5) tt

pub returns : goal.returns
returns c =
    let p = c.requires in let moved = rw (to_z-of_z w64 c.args.e c.ranges.e) at c.thrust_of.ensures in
    value (all p.up_to.0 p.row p.numbers p.up_to.1 moved) (v 0 ⊕ carried ⊕ v 5) tt
    ∙ ap (λ (z : ℤ). ideal (and_then p.up_to.0 p.row p.numbers []) (v 0 ⊕ carried) +ℤ z) moved
