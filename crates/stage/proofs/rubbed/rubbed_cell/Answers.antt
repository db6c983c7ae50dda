-- Friction leaves a dry cell and a calm one as they are, and of any other the slowed discharge, whose products fit: its speed was checked.
use Rattle.std.specs.Prelude.{◌≡◌, true, false, ◌&&◌, [], ◌∷◌, get_or, ℤ, pos, ◌≤ℤ◌, ◌<ℤ◌}
use Rattle.std.specs.Int.Signed.{le_z}
use Rattle.std.specs.Int.{w64}
use Rattle.std.proofs.Common.{sym, ◌∙◌, ap, ap₂, arith}
use Rattle.std.proofs.lemmas.Int.{to_z-of_z}
use Rattle.whole.specs.Flags.{and_l, and_r}
use Rattle.whole.specs.Parts.{le_lt_trans}
use Rattle.whole.specs.Equal.{eq_z, eq_yes}
use Rattle.whole.specs.Choice.{within_past}
use Rattle.whole.specs.Tests.{le_no}
use Rattle.whole.specs.Machine.{back, back64}
use Rattle.tables.specs.Cells.{Cell, as_cell, as_list}
use Rattle.tables.proofs.Cells.{of_four}
use Rattle.rules.specs.Limits.{least_dry, longest_step, roughest}
use Rattle.rules.specs.Face.{speed}
use Rattle.rules.specs.Friction.{drag}
use Rattle.rules.specs.Reach.{Bed, h0, shallow}
use Rattle.rules.specs.Step.{rubbed_cell}
use Rattle.rules.specs.Refusals.{fast_cell}
use Rattle.rules.specs.AtRest.{Calm}
use Rattle.rules.proofs.Laws.Friction.{drag_nonneg, rubbed_dry, rubbed_calm, rub_wet}
use Rattle.reach.specs.Told.{bed_in}
use Rattle.reach.specs.Ranges.{UpTo, DryDepth}
use Rattle.friction.specs.Given.{strongest}
use Rattle.friction.specs.Strength.{drag_most}
use Rattle.stage.specs.Ranges.{Inside}
use Rattle.stage.specs.Laws.CellSizes.{cell_sizes}
use Rattle.stage.proofs.rubbed.rubbed_cell.Goals as goal
use Rattle.stage.proofs.rubbed.rubbed_cell.Goals.{then-h-call-via-then-h-call, then-h-call-via-else-h-call+then-calm}

-- how strongly friction acts on a cell
abbrev strong : ℤ → ℤ → ℤ → Bed → Cell → ℤ
strong dt dry f b x = drag dt f (h0 b x) (speed dry x.q0 (h0 b x))

low : (dry : ℤ) (b : Bed) (x : Cell) → DryDepth dry → shallow dry b x ≡ false → least_dry <ℤ h0 b x
low dry b x d wet = le_lt_trans d.least (le_no (h0 b x) dry wet)

strong_size : (dt dry f : ℤ) (b : Bed) (x : Cell) → (pos 0 ≤ℤ dt) × UpTo longest_step dt → (pos 0 ≤ℤ f) × UpTo roughest f → Inside b x
    → least_dry <ℤ h0 b x → fast_cell dry b x ≡ false → (pos 0 ≤ℤ strong dt dry f b x) × UpTo strongest (strong dt dry f b x)
unfolding fast_cell
strong_size dt dry f b x time rough inside l slow =
    let h = h0 b x in let u = speed dry x.q0 h in let m = cell_sizes inside in (
      drag_nonneg dt f h u time.0 m.mean,
      drag_most h l m.mean_most dt f u time.1 rough.1 (within_past 131072 u slow),
    )

calm_is : (x : Cell) → (eq_z x.q0 (pos 0) && eq_z x.q1 (pos 0)) ≡ true → Calm x
calm_is x e =
    let a = eq_z x.q0 (pos 0) in let b = eq_z x.q1 (pos 0) in
    record { q0 = eq_yes x.q0 (pos 0) (and_l a b e); q1 = eq_yes x.q1 (pos 0) (and_r a b e) }

pub depths-h-requires-clause-wide : goal.depths-h-requires-clause-wide
depths-h-requires-clause-wide c = (cell_sizes c.requires.inside.0).wide

-- ---- a cell that is left as it is
pub returns-then-h-call : goal.returns-then-h-call
returns-then-h-call c =
    let p = c.args in let b = bed_in p.b in let x = as_cell p.x in let dry = p.call.dry in
    let mean = back64 {z = get_or c.depths-h.result 0 (pos 0)} (omega arith) (λ j. get_or (c.depths-h.ensures j) 0 (pos 0)) in
    let test = sym (ap₂ le_z mean (back {z = dry} (omega arith))) in
    let left : rubbed_cell p.call.dt dry p.f b x ≡ x = elim c.then-h-call.branch [
      | then-h-call-via-then-h-call w ↦ rubbed_dry p.call.dt dry p.f b x (test ∙ w.if-h-call.true)
      | then-h-call-via-else-h-call+then-calm w ↦ rubbed_calm p.call.dt dry p.f b x (calm_is x (sym w.calm.ensures ∙ w.if-calm.true))
    ] in
    of_four p.x (omega arith) ∙ sym (ap as_list left)

-- ---- water that moves
pub strength-requires-clause-up_to : goal.strength-requires-clause-up_to
strength-requires-clause-up_to c =
    let inside = c.requires.inside in (rw (back {z = (as_cell c.args.x).q0} (omega arith)) (cell_sizes inside.0).q0, inside.1)

pub strength-requires-clause-least_dry_lt_h : goal.strength-requires-clause-least_dry_lt_h
strength-requires-clause-least_dry_lt_h c =
    let p = c.args in let b = bed_in p.b in let x = as_cell p.x in let inside = c.requires.inside in
    let mean = back64 {z = get_or c.depths-h.result 0 (pos 0)} (omega arith) (λ j. get_or (c.depths-h.ensures j) 0 (pos 0)) in
    let wet = sym (ap₂ le_z mean (back {z = p.call.dry} (omega arith))) ∙ c.if-h-call.false in
    rw mean (low p.call.dry b x inside.1 wet, (cell_sizes inside.0).mean_most)

pub strength-requires-clause-h_value : goal.strength-requires-clause-h_value
unfolding fast_cell
strength-requires-clause-h_value c =
    let mean = back64 {z = get_or c.depths-h.result 0 (pos 0)} (omega arith) (λ j. get_or (c.depths-h.ensures j) 0 (pos 0)) in
    rw (mean, back {z = (as_cell c.args.x).q0} (omega arith)) c.requires.x_value

pub slowed_cell-requires-clause-pos_bound : goal.slowed_cell-requires-clause-pos_bound
slowed_cell-requires-clause-pos_bound c =
    let p = c.args in let b = bed_in p.b in let x = as_cell p.x in let inside = c.requires.inside in
    let mean = back64 {z = get_or c.depths-h.result 0 (pos 0)} (omega arith) (λ j. get_or (c.depths-h.ensures j) 0 (pos 0)) in
    let wet = sym (ap₂ le_z mean (back {z = p.call.dry} (omega arith))) ∙ c.if-h-call.false in
    let acts = rw (to_z-of_z w64 p.f c.ranges.f, mean, back {z = x.q0} (omega arith)) at c.strength.ensures in
    rw (back64 c.strength.type_inv acts)
    (strong_size p.call.dt p.call.dry p.f b x c.requires.pos_bound c.requires.pos_bound_2 inside.0
    (low p.call.dry b x inside.1 wet) c.requires.x_value)

pub slowed_cell-requires-clause-up_to : goal.slowed_cell-requires-clause-up_to
slowed_cell-requires-clause-up_to c = let m = cell_sizes c.requires.inside.0 in (m.q0, m.q1)

pub returns : goal.returns
unfolding rubbed_cell
returns c =
    let p = c.args in let b = bed_in p.b in let x = as_cell p.x in
    let mean = back64 {z = get_or c.depths-h.result 0 (pos 0)} (omega arith) (λ j. get_or (c.depths-h.ensures j) 0 (pos 0)) in
    let wet = sym (ap₂ le_z mean (back {z = p.call.dry} (omega arith))) ∙ c.if-h-call.false in
    let acts = rw (to_z-of_z w64 p.f c.ranges.f, mean, back {z = x.q0} (omega arith)) at c.strength.ensures in
    let left : (q : ℤ) → _ ≡ _ = λ q. sym (rub_wet p.call.dt p.call.dry p.f b x q wet) in
    (rw (back64 c.strength.type_inv acts) at c.slowed_cell.ensures) ∙ (λ i. x.e0 ∷ x.e1 ∷ left x.q0 i ∷ left x.q1 i ∷ [])
