-- What both faces and the Gauss points carry, and the thrust, are taken from the slope, and each difference fits.
use Rattle.std.specs.Prelude.{◌≡◌, List, [], ◌∷◌, get_or, ℤ, pos, ◌-ℤ◌}
use Rattle.std.proofs.Common.{◌∙◌, sym, subst}
use Rattle.std.proofs.lemmas.Int.{to_z-of_z}
use Rattle.std.specs.Int.{w64}
use Rattle.whole.specs.Parts.{b_up}
use Rattle.whole.specs.Machine.{X, v, ◌⊕◌, ◌⊝◌, Entry, ideal, got, need, value, sized}
use Rattle.rules.specs.Limits.{fullest}
use Rattle.reach.specs.declared.Reach.{Reach}
use Rattle.reach.specs.declared.Call.{Call}
use Rattle.reach.specs.Ranges.{UpTo, Numbers}
use Rattle.stage.specs.declared.rows.FaceRow.{FaceRow}
use Rattle.stage.specs.Ranges.{most_thrust, most_turn, most_momentum, most_pressure, Row}
use Rattle.stage.specs.Laws.UpdateSizes.{slope_size, thrust_size}
use Rattle.stage.specs.Rows.{slope_of, thrust}
use Rattle.stage.proofs.update.flow_slope.Goals as goal

abbrev change : X
change = v 1 ⊕ v 0 ⊝ v 2

abbrev env : {l f : FaceRow} {g : ℤ} → Row l × Row f → UpTo most_momentum g → List Entry
env rows g = sized rows.0.A tt ∷ sized rows.1.A tt ∷ sized g tt ∷ []

module _ {l f : FaceRow} {q1 g d : ℤ} {reach : Reach} {call : Call} (p : UpTo fullest q1 × UpTo most_momentum g × UpTo most_pressure d)
    (rows : Row l × Row f) (num : Numbers reach call) {a : ℤ} (changed : a ≡ slope_of (ideal (env rows p.1) change) reach.dx call.dt) where
  -- the slope and what it changes by, and then others
  abbrev and_then : List Entry → List Entry
  and_then more =
      let size = slope_size _ reach.dx call.dt (b_up 4365877248 (got (env rows p.1) change tt).bound tt) num.dt_in in
      sized p.0 tt ∷ sized (subst (UpTo most_turn) (sym changed) size) tt ∷ more

  -- and the thrust
  abbrev all : {b : ℤ} → b ≡ thrust d reach.dx call.dt → List Entry
  all is = and_then (sized (subst (UpTo most_thrust) (sym is) (thrust_size _ _ _ p.2 num.dx_pos num.dt_in)) tt ∷ [])

pub overflow_sub-result : goal.overflow_sub-result
overflow_sub-result c =
    let p = c.requires in let changed = rw (value (env p.row p.up_to.1) change tt) at c.slope_change.ensures in
    need (and_then p.up_to p.row p.numbers changed []) (v 0 ⊝ v 1) tt

pub overflow_sub-result-2 : goal.overflow_sub-result-2
overflow_sub-result-2 c =
    let p = c.requires in let changed = rw (value (env p.row p.up_to.1) change tt) at c.slope_change.ensures in
    let moved = rw (to_z-of_z w64 c.args.d c.ranges.d) at c.thrust_of.ensures in
    need (all p.up_to p.row p.numbers changed moved) (v 0 ⊝ v 1 ⊝ v 2) tt

pub returns : goal.returns
returns c =
    let p = c.requires in let changed = rw (value (env p.row p.up_to.1) change tt) at c.slope_change.ensures in
    let moved = rw (to_z-of_z w64 c.args.d c.ranges.d) at c.thrust_of.ensures in
    value (all p.up_to p.row p.numbers changed moved) (v 0 ⊝ v 1 ⊝ v 2) tt
    ∙ (λ j. get_or c.args.x 3 (pos 0) -ℤ changed j -ℤ moved j)
