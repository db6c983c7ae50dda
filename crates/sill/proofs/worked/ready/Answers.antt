-- The three checks in their order; each is known to have been passed where the next one is made.
use Rattle.std.proofs.Common.{◌≡◌, refl, ◌∙◌, sym, ap, Bool, List, ℕ, ℤ, get_or, pos, length}
use Rattle.rules.specs.Refusals.{bad_rough}
use Rattle.reach.specs.declared.answer.Refusal.TheVariants.{Bed, Friction, State}
use Rattle.reach.specs.Places.{first_place}
use Rattle.reach.specs.Told.{found_in}
use Rattle.reach.specs.Laws.Checks.{handed_on, check_stops, check_passes, last_check}
use Rattle.sill_rules.specs.Refusals.{bad_bed}
use Rattle.sill.specs.Says.{ready_checks}
use Rattle.sill.specs.Laws.LentChecks.{grounds}
use Rattle.sill.proofs.worked.ready.Goals as goal

-- the searches of the lent tables go over as many values as there are
bed_search : (bed : List ℤ) (n : ℕ) → length bed ≡ n → let p : ℕ → Bool = λ i. bad_bed (get_or bed i (pos 0)) in
    first_place p (length bed) ≡ first_place p n
bed_search bed n e = ap (first_place (λ i. bad_bed (get_or bed i (pos 0)))) e

rough_search : (friction : List ℕ) (n : ℕ) → length friction ≡ n → let p : ℕ → Bool = λ i. bad_rough (pos (get_or friction i 0)) in
    first_place p (length friction) ≡ first_place p n
rough_search friction n e = ap (first_place (λ i. bad_rough (pos (get_or friction i 0)))) e

pub returns-in_err-at : goal.returns-in_err-at
returns-in_err-at c =
    let a = c.args in let e = c.in_err-at.field-0.0 in let checks = ready_checks a.n a.bed.now a.friction.now a.state.now in
    let bed = c.bad_bed.ensures ∙ bed_search a.bed.now a.n c.requires.2 in
    ap found_in (handed_on c.from_residual.result e c.from_residual.ensures.1)
    ∙ check_stops checks 0 Bed c.bad_bed.result refl bed tt e (sym c.at.ensures ∙ c.in_err-at.was)

pub returns-in_err-at-2 : goal.returns-in_err-at-2
returns-in_err-at-2 c =
    let a = c.args in let e = c.in_err-at-2.field-0.0 in let checks = ready_checks a.n a.bed.now a.friction.now a.state.now in
    let bed = c.bad_bed.ensures ∙ bed_search a.bed.now a.n c.requires.2 in
    let rough = c.bad_friction.ensures ∙ rough_search a.friction.now a.n c.requires.3 in
    let one = check_passes checks 0 Bed c.bad_bed.result refl bed tt (sym c.at.ensures ∙ c.in_ok-at.was) in
    ap found_in (handed_on c.from_residual-in_err-at-2.result e c.from_residual-in_err-at-2.ensures.1)
    ∙ check_stops checks 1 Friction c.bad_friction.result refl rough (one, tt) e (sym c.at-2.ensures ∙ c.in_err-at-2.was)

pub off_state-requires : goal.off_state-requires
off_state-requires c =
    let a = c.args in let checks = ready_checks a.n a.bed.now a.friction.now a.state.now in
    let bed = c.bad_bed.ensures ∙ bed_search a.bed.now a.n c.requires.2 in
    let one = check_passes checks 0 Bed c.bad_bed.result refl bed tt (sym c.at.ensures ∙ c.in_ok-at.was) in
    (c.requires.0, c.requires.1, grounds a.n a.bed.now one)

pub returns : goal.returns
returns c =
    let a = c.args in let checks = ready_checks a.n a.bed.now a.friction.now a.state.now in
    let bed = c.bad_bed.ensures ∙ bed_search a.bed.now a.n c.requires.2 in
    let rough = c.bad_friction.ensures ∙ rough_search a.friction.now a.n c.requires.3 in
    let one = check_passes checks 0 Bed c.bad_bed.result refl bed tt (sym c.at.ensures ∙ c.in_ok-at.was) in
    let two = check_passes checks 1 Friction c.bad_friction.result refl rough tt (sym c.at-2.ensures ∙ c.in_ok-at-2.was) in
    ap found_in c.at-3.ensures
    ∙ last_check checks 2 State c.off_state.result refl c.off_state.ensures (one, (two, tt)) (λ three. (one, (two, (three, tt))))
