-- The checks in their order; a state that passed them has depths in range.
use Rattle.std.proofs.Common.{sym, ◌∙◌, ap, length, Err, arith}
use Rattle.std.proofs.lemmas.Result.{err_from_is_err_and}
use Rattle.rules.specs.Sums.{unmade}
use Rattle.rules.proofs.Laws.StateAndBed.{state_passed}
use Rattle.rules.proofs.Laws.Questions.{unmade_one, unmade_later, all_made}
use Rattle.reach.specs.declared.answer.Refusal.TheVariants.{Lengths}
use Rattle.reach.specs.Laws.Refusals.{refused_some}
use Rattle.sums.specs.Answered.{tables_fit, made_none, made_all}
use Rattle.sums.proofs.make.Goals as goal

pub returns-then-bad_sums : goal.returns-then-bad_sums
returns-then-bad_sums c =
    let p = c.args in let misfit = sym (rw c.cells_over.ensures at c.bad_sums.ensures) ∙ c.if-bad_sums.true in
    made_none Lengths (unmade_one p.bed.now p.state.now (length p.sums.now) misfit) p.sums.now

pub returns-in_err-check : goal.returns-in_err-check
returns-in_err-check c =
    let p = c.args in let k = c.in_err-check.field-0.0 in let is = c.in_err-check.ensures in
    let handed = err_from_is_err_and c.from_residual.result c.from_residual.ensures.1 in
    rw (handed.1 ∙ ap Err handed.2)
    (made_none k
    (unmade_later p.bed.now p.state.now (length p.sums.now) (sym (rw c.cells_over.ensures at c.if-bad_sums.ensures))
    (λ z. omega (arith, refused_some k, is, z)) ∙ ap unmade (sym is))
    p.sums.now)

pub fill-requires : goal.fill-requires
fill-requires c =
    let p = c.args in let passed = sym c.in_ok-check.ensures in
    let ok = state_passed p.bed.now p.state.now passed in
    (tables_fit p.bed.now p.state.now p.sums.now ok.0 (sym (rw c.cells_over.ensures at c.if-bad_sums.ensures)), ok.1)

pub returns : goal.returns
returns c =
    let p = c.args in let fit = sym (rw c.cells_over.ensures at c.if-bad_sums.ensures) in
    made_all (all_made p.bed.now p.state.now (length p.sums.now) fit (sym c.in_ok-check.ensures)) p.sums.now _ c.fill.ensures
