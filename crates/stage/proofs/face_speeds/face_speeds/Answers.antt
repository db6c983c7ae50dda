-- The left end is tried beside the first cell's left side, then the cells' sides, then the right end beside the last one's right side.
use Rattle.std.specs.Prelude.{◌≡◌, Bool, ℕ, ◌<◌, ℤ, Option, Some}
use Rattle.std.proofs.Common.{sym, ◌∙◌, subst, arith}
use Rattle.whole.specs.Machine.{back}
use Rattle.tables.specs.Cells.{seen}
use Rattle.rules.specs.Face as rules
use Rattle.rules.specs.Ends.{End}
use Rattle.rules.specs.Refusals.{fast_inflow}
use Rattle.reach.specs.Told.{end_in}
use Rattle.reach.specs.Places.{first_place, found_says}
use Rattle.stage.specs.Ranges.{DepthIn}
use Rattle.stage.specs.Laws.FaceSpeeds.{first_depth, last_depth, says_left_inflow, says_side, says_right_inflow, says_slow}
use Rattle.stage.proofs.face_speeds.face_speeds.Goals as goal

-- what was said of an end whose inner side is x, by the dry depth that was read
tried : (e : End) {read dry : ℤ} {x side : rules.Side} {fast : Bool} → read ≡ dry → side ≡ x → fast ≡ fast_inflow read e side
    → fast_inflow dry e x ≡ fast
tried e r s is = sym (is ∙ (λ j. fast_inflow (r j) e (s j)))

-- a cell that a search found is one of those that it went over
one_of : (p : ℕ → Bool) {n i : ℕ} {k : Option ℕ} → k ≡ first_place p n → k ≡ Some i → i < n
one_of p {n} {i} stops is = (found_says p n i (sym stops ∙ is)).2

pub fast_inflow-requires-clause-depth_in : goal.fast_inflow-requires-clause-depth_in
fast_inflow-requires-clause-depth_in c =
    let a = c.args.course in
    subst (λ (x : rules.Side). DepthIn x.h) (sym c.left_side.ensures)
    (first_depth a.reach a.call a.bed.now (seen c.args.t.now) c.requires.n_nonzero.0 c.sides-fast.ensures.fills c.requires.ranged)

pub returns-then-fast_inflow : goal.returns-then-fast_inflow
returns-then-fast_inflow c =
    let call = c.args.course.call in
    let left = tried (end_in call.left) (back {z = call.dry} (omega arith)) c.left_side.ensures c.fast_inflow.ensures in
    says_left_inflow _ _ _ _ c.requires.n_nonzero.0 c.sides-fast.ensures.fills (left ∙ c.if-fast_inflow.true)

pub offset_bounds-d-i : goal.offset_bounds-d-i
offset_bounds-d-i c = record { fits = omega (arith, one_of _ c.sides-fast.ensures.stops c.in-Some.is, c.requires.n_nonzero) }

pub slice_copy_out-face_beside : goal.slice_copy_out-face_beside
slice_copy_out-face_beside c = omega (arith, one_of _ c.sides-fast.ensures.stops c.in-Some.is, c.requires.n_nonzero)

pub face_beside-requires : goal.face_beside-requires
face_beside-requires c = omega (arith, one_of _ c.sides-fast.ensures.stops c.in-Some.is, c.requires.n_nonzero)

pub returns-in-Some : goal.returns-in-Some
returns-in-Some c =
    let call = c.args.course.call in
    let left = tried (end_in call.left) (back {z = call.dry} (omega arith)) c.left_side.ensures c.fast_inflow.ensures in
    says_side _ _ _ _ c.requires.n_nonzero.0 (rw c.in-Some.is at c.sides-fast.ensures.fills) (left ∙ c.if-fast_inflow.false)
    (one_of _ c.sides-fast.ensures.stops c.in-Some.is) c.face_beside.ensures

pub fast_inflow-requires-2-clause-depth_in : goal.fast_inflow-requires-2-clause-depth_in
fast_inflow-requires-2-clause-depth_in c =
    let a = c.args.course in
    let left = tried (end_in a.call.left) (back {z = a.call.dry} (omega arith)) c.left_side.ensures c.fast_inflow.ensures in
    subst (λ (x : rules.Side). DepthIn x.h) (sym c.right_side.ensures)
    (last_depth a.reach a.call a.bed.now (seen c.args.t.now) c.requires.n_nonzero.0 (rw c.in_default.is at c.sides-fast.ensures.fills)
    (left ∙ c.if-fast_inflow.false) (omega arith) c.requires.ranged)

pub returns-then-fast_inflow-2 : goal.returns-then-fast_inflow-2
returns-then-fast_inflow-2 c =
    let call = c.args.course.call in let dry = back {z = call.dry} (omega arith) in
    let left = tried (end_in call.left) dry c.left_side.ensures c.fast_inflow.ensures in
    let right = tried (end_in call.right) dry c.right_side.ensures c.fast_inflow-2.ensures in
    says_right_inflow _ _ _ _ c.requires.n_nonzero.0 (rw c.in_default.is at c.sides-fast.ensures.fills)
    (left ∙ c.if-fast_inflow.false) (omega arith) (right ∙ c.if-fast_inflow-2.true)

pub returns : goal.returns
returns c =
    let call = c.args.course.call in let dry = back {z = call.dry} (omega arith) in
    let left = tried (end_in call.left) dry c.left_side.ensures c.fast_inflow.ensures in
    let right = tried (end_in call.right) dry c.right_side.ensures c.fast_inflow-2.ensures in
    says_slow _ _ _ _ c.requires.n_nonzero.0 (rw c.in_default.is at c.sides-fast.ensures.fills)
    (left ∙ c.if-fast_inflow.false) (omega arith) (right ∙ c.if-fast_inflow-2.false)
