-- The three checks in their order; each is known to have been passed where the next one is made.
use Rattle.std.proofs.Common.{◌≡◌, Bool, false, sym, ◌∙◌, ap, List, get_or, length, ℕ, suc, ℤ, pos, Option, arith}
use Rattle.std.specs.Option.{is_some}
use Rattle.tables.specs.Some.{some}
use Rattle.tables.specs.Cells.{cell_in}
use Rattle.rules.specs.Reach.{bed_at}
use Rattle.rules.specs.Refusals.{bad_bed, off_cell, verdict}
use Rattle.rules.specs.StateAndBed.{cells_over, misfit_state, state_checks, state_refusal}
use Rattle.rules.proofs.Laws.Verdicts.{of_call_lem}
use Rattle.rules.proofs.Laws.StateAndBed.{state_fits}
use Rattle.reach.specs.Places.{first_place, is_some_place}
use Rattle.stage.specs.Laws.LentChecks.{grounds}
use Rattle.stage.proofs.state_and_bed.check.Goals as goal

-- the search of the bed goes over as many values as there are, in a state that fits
bed_is_bad : (state bed : List ℤ) → misfit_state (length state) (cells_over bed) ≡ false → (o : Option ℕ)
    → o ≡ first_place (λ i. bad_bed (get_or bed i (pos 0))) (length bed)
    → is_some o ≡ some (λ i. bad_bed (get_or bed i (pos 0))) (suc (cells_over bed))
bed_is_bad state bed fit o is =
    let fits = state_fits (length state) (cells_over bed) fit in
    let all : length bed ≡ suc (cells_over bed) = omega (arith, fits.some) in
    ap is_some is ∙ is_some_place (λ i. bad_bed (get_or bed i (pos 0))) (length bed) ∙ ap (some (λ i. bad_bed (get_or bed i (pos 0)))) all

abbrev off_at : List ℤ → List ℤ → ℕ → Bool
off_at state bed i = off_cell (bed_at bed i) (cell_in (cells_over bed) state i)

pub returns-then-bad_state : goal.returns-then-bad_state
unfolding state_refusal state_checks verdict
returns-then-bad_state c =
    let n = cells_over c.args.bed.now in let misfit = rw c.cells_over-n.ensures at c.bad_state.ensures in
    rw (of_call_lem 1 (misfit_state (length c.args.state.now) n) ∙ sym misfit ∙ c.if-bad_state.true)

pub returns-then-is_some : goal.returns-then-is_some
unfolding state_refusal state_checks verdict
returns-then-is_some c =
    let a = c.args in let n = cells_over a.bed.now in
    let fit = sym (rw c.cells_over-n.ensures at c.bad_state.ensures) ∙ c.if-bad_state.false in
    let bad = bed_is_bad a.state.now a.bed.now fit c.bad_bed.result c.bad_bed.ensures in
    rw (of_call_lem 1 (misfit_state (length a.state.now) n) ∙ fit, sym bad ∙ sym c.is_some.ensures ∙ c.if-is_some.true)

pub off_state-requires : goal.off_state-requires
off_state-requires c =
    let a = c.args in let n = cells_over a.bed.now in
    let fit = sym (rw c.cells_over-n.ensures at c.bad_state.ensures) ∙ c.if-bad_state.false in
    let fits = state_fits (length a.state.now) n fit in
    let bad = bed_is_bad a.state.now a.bed.now fit c.bad_bed.result c.bad_bed.ensures in
    rw c.cells_over-n.ensures (fits.most, fits.state, grounds n a.bed.now (sym bad ∙ sym c.is_some.ensures ∙ c.if-is_some.false))

pub returns-then-is_some-2 : goal.returns-then-is_some-2
unfolding state_refusal state_checks verdict
returns-then-is_some-2 c =
    let a = c.args in let n = cells_over a.bed.now in
    let fit = sym (rw c.cells_over-n.ensures at c.bad_state.ensures) ∙ c.if-bad_state.false in
    let bad = bed_is_bad a.state.now a.bed.now fit c.bad_bed.result c.bad_bed.ensures in
    let off = ap is_some (rw c.cells_over-n.ensures at c.off_state.ensures) ∙ is_some_place (off_at a.state.now a.bed.now) n in
    rw (
      of_call_lem 1 (misfit_state (length a.state.now) n) ∙ fit,
      sym bad ∙ sym c.is_some.ensures ∙ c.if-is_some.false,
      sym off ∙ sym c.is_some-2.ensures ∙ c.if-is_some-2.true,
    )

pub returns : goal.returns
unfolding state_refusal state_checks verdict
returns c =
    let a = c.args in let n = cells_over a.bed.now in
    let fit = sym (rw c.cells_over-n.ensures at c.bad_state.ensures) ∙ c.if-bad_state.false in
    let bad = bed_is_bad a.state.now a.bed.now fit c.bad_bed.result c.bad_bed.ensures in
    let off = ap is_some (rw c.cells_over-n.ensures at c.off_state.ensures) ∙ is_some_place (off_at a.state.now a.bed.now) n in
    rw (
      of_call_lem 1 (misfit_state (length a.state.now) n) ∙ fit,
      sym bad ∙ sym c.is_some.ensures ∙ c.if-is_some.false,
      sym off ∙ sym c.is_some-2.ensures ∙ c.if-is_some-2.false,
    )
