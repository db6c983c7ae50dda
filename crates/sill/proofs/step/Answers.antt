-- The lengths and the numbers are checked in their order; the step on tables says the rest.
use Rattle.std.proofs.Common.{◌≡◌, refl, sym, ◌∙◌, ap, Bool, true, false, cond, length, get_or, ℕ, ℤ, pos}
use Rattle.std.specs.Prelude.{Some, None}
use Rattle.sill_rules.proofs.Laws.Lengths.{fitted}
use Rattle.sill_rules.specs.Refusals.{bad_call}
use Rattle.sill.specs.declared.rows.Call.{Call}
use Rattle.sill.specs.Told.{reach_in, call_by}
use Rattle.sill.specs.Says.{tables_outcome}
use Rattle.sill.specs.Laws.LentChecks.{numbers}
use Rattle.sill.specs.Laws.Answered.{same_gives, call_told, length_refused, call_refused, further}
use Rattle.sill.proofs.step.Goals as goal

-- what an answer of the check of the numbers says
no_call : (b : Bool) (x : Call) → None ≡ cond b None (Some x) → b ≡ true
no_call true x e = refl
no_call false x e = let z : ⊥ = cc in absurd z

a_call : (b : Bool) (x y : Call) → Some y ≡ cond b None (Some x) → (b ≡ false) × (y ≡ x)
a_call true x y e = let z : ⊥ = cc in absurd z
a_call false x y e = (refl, cc)

pub returns-then-bad_lengths : goal.returns-then-bad_lengths
returns-then-bad_lengths c =
    let a = c.args in
    rw c.into.ensures
    (length_refused a.state.now (length a.next.now) a.bed.now a.friction.now a.given (sym c.bad_lengths.ensures ∙ c.if-bad_lengths.true) _)

pub returns-in_default : goal.returns-in_default
returns-in_default c =
    let a = c.args in let ρ : ℕ → ℤ = λ i. pos (get_or a.friction.now i 0) in
    rw c.into-in_default.ensures
    (call_refused a.state.now (length a.next.now) a.bed.now a.friction.now a.given (sym c.bad_lengths.ensures ∙ c.if-bad_lengths.false)
    (no_call _ _ (sym c.in_default.is ∙ c.call_of.ensures a.bed.now ρ)) _)

pub work-requires-clause-numbers : goal.work-requires-clause-numbers
work-requires-clause-numbers c =
    let a = c.args in let ρ : ℕ → ℤ = λ i. pos (get_or a.friction.now i 0) in let n = length a.friction.now in
    let told = a_call _ _ _ (sym c.in-Some.is ∙ c.call_of.ensures a.bed.now ρ) in
    let f = fitted _ _ _ _ (sym c.bad_lengths.ensures ∙ c.if-bad_lengths.false) in let call = call_by n a.given in
    let fine = ap (bad_call (reach_in call a.bed.now)) (call_told n a.given a.bed.now ρ told.0) ∙ told.0 in
    rw told.1 (numbers call a.bed.now ρ f.some f.most fine)

pub work-requires-clause-lengths : goal.work-requires-clause-lengths
work-requires-clause-lengths c =
    let told = a_call _ _ _ (sym c.in-Some.is ∙ c.call_of.ensures c.args.bed.now (λ i. pos 0)) in
    let f = fitted _ _ _ _ (sym c.bad_lengths.ensures ∙ c.if-bad_lengths.false) in
    rw told.1 record { state_is = f.now; next_is = f.next; bed_is = f.beds; friction_is = refl }

pub returns : goal.returns
returns c =
    let a = c.args in let ρ : ℕ → ℤ = λ i. pos (get_or a.friction.now i 0) in
    let told = a_call _ _ _ (sym c.in-Some.is ∙ c.call_of.ensures a.bed.now ρ) in
    same_gives
    (ap (λ (x : Call). tables_outcome x a.bed.now a.friction.now a.state.now) told.1
    ∙ further a.state.now (length a.next.now) a.bed.now a.friction.now a.given (sym c.bad_lengths.ensures ∙ c.if-bad_lengths.false) told.0)
    c.work.ensures
