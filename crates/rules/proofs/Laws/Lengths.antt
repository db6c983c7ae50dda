-- Check 1, and the number and the place of a call: what lengths that fit are, and when the number is 1.
-- Assumes nothing.
use Rattle.std.specs.Prelude.{◌≡◌, true, false, not, ℕ, ◌+◌, ◌*◌, ◌≤◌, ◌<◌, eqb, ltb}
use Rattle.std.proofs.Common.{sym, ◌∙◌, arith, eq-eqb, ne_eqb, eqb→eq, nltb→le}
use Rattle.std.proofs.lemmas.Bool.{eqb-false}
use Rattle.whole.specs.Flags.{by, held, failed, not_f}
use Rattle.rules.specs.Refusals.{checks, refusal, refused_at}
use Rattle.rules.specs.Lent.{Lent, cells_of, reach_of, call_of, state_of, length_tests, misfit, misfits, number, place}
use Rattle.rules.specs.Lent.{filled, crossed, refused, accepted, step_of}
use Rattle.rules.proofs.Laws.Accept.{none_at}
use Rattle.rules.specs.Found.{at, found, found_of}

-- ---- lengths
-- what their tests say where they fail
pub same : (a b : ℕ) → not (eqb a b) ≡ false → a ≡ b
same a b e = eqb→eq a b (held (eqb a b) (not_f (eqb a b) e))

pub above : (n : ℕ) → eqb n 0 ≡ false → 0 < n
above n e = let z : n ≡ 0 → ⊥ = eqb-false n 0 e in omega (arith, z)

pub record Fitted (state room bed n : ℕ) : Type 0 where
  pub some : 0 < n
  pub most : n ≤ 1024
  pub now : state ≡ 4 * n
  pub next : room ≡ 4 * n
  pub beds : bed ≡ n + 1

pub fitted : (state room bed n : ℕ) → misfit state room bed n ≡ false → Fitted state room bed n
unfolding misfit
fitted state room bed n e =
    let fails = none_at (length_tests state room bed n) e in
    record {
      some = above n (fails 0);
      most = nltb→le 1024 n (failed (ltb 1024 n) (fails 1));
      now = same state (4 * n) (fails 2);
      next = same room (4 * n) (fails 3);
      beds = same bed (n + 1) (fails 4);
    }

-- ---- the number, and the place
module _ (a : Lent) where
  pub first_found : misfits a ≡ true → at 1 0 ≡ found_of a
  unfolding number place
  first_found e = rw e

  pub later_found : misfits a ≡ false → found (checks (reach_of a) (call_of a) (state_of a)) ≡ found_of a
  unfolding number place refusal refused_at
  later_found e = rw e

  pub first_number : misfits a ≡ true → number a ≡ 1
  unfolding number
  first_number e = rw e

  pub later_number : misfits a ≡ false → number a ≡ refusal (reach_of a) (call_of a) (state_of a)
  unfolding number
  later_number e = rw e

  -- an accepted call
  pub fits : number a ≡ 0 → misfits a ≡ false
  fits e = by (misfits a) (λ y. let z = first_number y in let w : ⊥ = omega arith in absurd w) (λ y. y)

  pub unrefused : number a ≡ 0 → refusal (reach_of a) (call_of a) (state_of a) ≡ 0
  unrefused e = sym (later_number (fits e)) ∙ e

  -- what a call gives, by its number
  pub accepts : number a ≡ 0 → step_of a ≡ accepted (filled a) (crossed a 0) (crossed a (cells_of a))
  unfolding step_of
  accepts e = rw (eq-eqb (number a) 0 e)

  pub refuses : (number a ≡ 0 → ⊥) → step_of a ≡ refused (number a) (place a)
  unfolding step_of
  refuses f = rw (ne_eqb (number a) 0 f)
