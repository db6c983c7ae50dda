-- A lake at rest: of the checks after 5 only 7, that of the time step, can apply to it.
-- Assumes nothing.
use Rattle.std.specs.Prelude.{◌≡◌, false, List, [], ◌∷◌, ◌⊎◌, ℕ, suc, ◌<◌}
use Rattle.std.proofs.Common.{sym, ◌∙◌}
use Rattle.std.proofs.Math.Logic.{inl, inr}
use Rattle.whole.specs.Flags.{by}
use Rattle.tables.specs.Some.{some}
use Rattle.tables.proofs.Some.{none_some, some_same}
use Rattle.rules.specs.Lawful.{Lawful}
use Rattle.rules.specs.Refusals.{bad_rough, Check, of_call, each, applies, verdict, Clear}
use Rattle.rules.proofs.Laws.Verdicts.{check_at, clear_at, of_call_lem}
use Rattle.rules.proofs.Laws.StillChecks.{no_speed}
use Rattle.sill_rules.specs.Reach.{Reach, Call, State, depth, pace}
use Rattle.sill_rules.specs.Step.{rubbed, next}
use Rattle.sill_rules.specs.Refusals.{bad_call, bad_bed, off, fast_pool, fast_friction, too_long, early, checks, refusal}
use Rattle.sill_rules.specs.AtRest.{AtRest}
use Rattle.sill_rules.proofs.Laws.Order as order
use Rattle.sill_rules.proofs.Laws.Agree.{off_same}
use Rattle.sill_rules.proofs.Laws.Rest.{next_rest}
use Rattle.sill_rules.proofs.Laws.Speeds.{slow_faces}
use Rattle.sill_rules.proofs.Laws.Accepted.{fine}

-- the checks of what is lent, 2 to 5
abbrev pub input : Reach → Call → State → List Check
input r c s =
    of_call 2 (bad_call r c) ∷ each 3 r.n (λ i. bad_bed (r.bed i)) ∷ each 4 r.n (λ i. bad_rough (c.rough i))
    ∷ each 5 r.n (off r s) ∷ []

module _ (r : Reach) (law : Lawful r.face) (o : 0 < r.n) (c : Call) (s : State) (a : AtRest r s) (ok : Clear (input r c s)) where
  clear : (i : ℕ) → applies (check_at (input r c s) i) ≡ false
  clear = clear_at (input r c s) ok

  -- where there is no discharge there is no speed
  slow_friction : some (fast_friction r c s) r.n ≡ false
  unfolding fast_friction fast_pool pace
  slow_friction = none_some (fast_friction r c s) r.n (λ i l. no_speed c.dry (s i).q (depth (r.bed i) (s i)) (a.calm i l))

  -- no number has changed that 5 found in range
  end_in_range : some (off r (next r c s)) r.n ≡ false
  end_in_range = some_same (off r (next r c s)) (off r s) r.n (off_same r (next r c s) s (next_rest r law c s a)) ∙ clear order.state

  pub seven_alone : (refusal r c s ≡ 0) ⊎ (refusal r c s ≡ 7)
  unfolding refusal checks early verdict
  seven_alone =
      let call = clear order.call in let bed = clear order.beds in let rough = clear order.rough in let now = clear order.state in
      let faces = slow_faces r c (fine r c (sym (of_call_lem 2 (bad_call r c)) ∙ call)) s slow_friction o in
      by (some (too_long r c (rubbed r c s)) (suc r.n))
      (λ long. inr (rw (call, bed, rough, now, slow_friction, faces, long)))
      (λ short. inl (rw (call, bed, rough, now, slow_friction, faces, short, end_in_range)))
