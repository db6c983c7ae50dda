-- Check 1, and the number of a call: what lengths that fit are, and what they leave to the checks of the reach.
-- Assumes nothing.
use Rattle.std.specs.Prelude.{◌≡◌, true, false, ℕ, ◌*◌, ◌≤◌, ◌<◌, ltb}
use Rattle.std.proofs.Common.{◌∙◌, arith, nltb→le}
use Rattle.std.proofs.Math.Path.{ap}
use Rattle.whole.specs.Flags.{by, failed}
use Rattle.tables.specs.Some.{some, lowest}
use Rattle.rules.specs.Refusals.{verdict, spot}
use Rattle.rules.specs.Found.{Found, at, found}
use Rattle.rules.proofs.Laws.Accept.{none_at}
use Rattle.rules.proofs.Laws.Lengths.{same, above}
use Rattle.sill_rules.specs.Refusals.{checks, refusal}
use Rattle.sill_rules.specs.Lent.{Lent, reach_of, call_of, state_of, length_tests, misfit, misfits, all_checks}

pub record Fitted (state room bed n : ℕ) : Type 0 where
  pub some : 0 < n
  pub most : n ≤ 1024
  pub now : state ≡ 2 * n
  pub next : room ≡ 2 * n
  pub beds : bed ≡ n

pub fitted : (state room bed n : ℕ) → misfit state room bed n ≡ false → Fitted state room bed n
unfolding misfit
fitted state room bed n e =
    let fails = none_at (length_tests state room bed n) e in
    record {
      some = above n (fails 0);
      most = nltb→le 1024 n (failed (ltb 1024 n) (fails 1));
      now = same state (2 * n) (fails 2);
      next = same room (2 * n) (fails 3);
      beds = same bed n (fails 4);
    }

-- ---- the number and the place of a call
module _ (a : Lent) where
  pub first_found : misfits a ≡ true → at 1 0 ≡ found (all_checks a)
  unfolding all_checks verdict spot some lowest
  first_found e = rw e

  pub later_found : misfits a ≡ false → found (checks (reach_of a) (call_of a) (state_of a)) ≡ found (all_checks a)
  unfolding all_checks verdict spot some
  later_found e = rw e

  -- an accepted call
  pub fits : verdict (all_checks a) ≡ 0 → misfits a ≡ false
  fits e = by (misfits a) (λ y. let z = ap (λ (k : Found). k.no) (first_found y) in let w : ⊥ = omega arith in absurd w) (λ y. y)

  pub unrefused : verdict (all_checks a) ≡ 0 → refusal (reach_of a) (call_of a) (state_of a) ≡ 0
  unfolding refusal
  unrefused e = ap (λ (k : Found). k.no) (later_found (fits e)) ∙ e
