-- The step on tables: the lent tables are checked, and the stage follows. What the call gives, by what they found.
-- Assumes nothing.
use Rattle.std.specs.Prelude.{◌≡◌, refl, List, [], ◌∷◌, ◌++◌, ℕ, ◌≤◌, ◌<◌, get_or, ℤ, pos, T, leb, Ok, Err}
use Rattle.std.proofs.Math.Path.{sym, ap}
use Rattle.std.proofs.Common.{◌∙◌, arith, leb→le}
use Rattle.whole.specs.Flags.{held, by}
use Rattle.tables.specs.Pools.{as_pool, pools_seen, pool_in, pool_table, length_pools, pool_in_table, pools_are}
use Rattle.rules.specs.Refusals.{Check, applies, verdict}
use Rattle.rules.specs.Found.{Found, at, found}
use Rattle.rules.specs.Lent.{Outcome, refused}
use Rattle.rules.proofs.Laws.Verdicts.{stopped, went_on, up_to}
use Rattle.rules.proofs.Laws.Outcome.{accepts, refuses}
use Rattle.reach.specs.declared.answer.Refused.{Refused}
use Rattle.reach.specs.Refusals.{number_of}
use Rattle.reach.specs.Laws.Refusals.{refused_some}
use Rattle.reach.specs.Gives.{answer, number_in, leaves, code, numbered, one_refused, Gives}
use Rattle.sill_rules.specs.Reach as rules
use Rattle.sill_rules.specs.Reach.{State}
use Rattle.sill_rules.specs.Step.{next, carry}
use Rattle.sill.specs.declared.rows.Call.{Call}
use Rattle.sill.specs.declared.rows.FaceRow.{FaceRow}
use Rattle.sill.specs.Told.{reach_in, call_in}
use Rattle.sill.specs.Rows.{no_face}
use Rattle.sill.specs.Says.{ready_checks, stage_checks, StageSays, tables_outcome}

-- a list in which no number is over m gives none over m
most_found : (m : ℕ) (xs : List Check) → T (up_to m xs) → verdict xs ≤ m
unfolding verdict
most_found m [] t = omega arith
most_found m (x ∷ xs) t = by (leb x.no m)
    (λ low. by (applies x) (λ b. rw b (leb→le x.no m (held (leb x.no m) low))) (λ b. rw b (most_found m xs (rw low at t))))
    (λ high. absurd (rw high at t))

module _ (call : Call) (bed : List ℤ) (friction : List ℕ) (state : List ℤ) where
  abbrev n : ℕ
  n = call.n

  abbrev r : rules.Reach
  r = reach_in call bed

  abbrev c : rules.Call
  c = call_in call (λ i. pos (get_or friction i 0))

  abbrev s : State
  s = pool_in n state

  abbrev ready : List Check
  ready = ready_checks n bed friction state

  abbrev checks : List Check
  checks = ready ++ stage_checks r c s

  abbrev gives : Outcome
  gives = tables_outcome call bed friction state

  -- a refusal at its place, where the checks found that
  refusal : (e : Refused) → at (number_of e.refusal) e.place ≡ found checks → (old : List ℤ) → Gives gives (Err e) old old
  unfolding answer number_in leaves code
  refusal e same old =
      let k = number_of e.refusal in
      let no : k ≡ verdict checks = ap (λ (m : Found). m.no) same in
      let some = refused_some e.refusal in let few = most_found 8 checks tt in
      let is : gives ≡ refused k e.place =
      refuses _ _ _ checks (λ d. omega (arith, no, d, some)) ∙ (λ j. refused (sym same j).no (sym same j).place) in
      record {
        says = ap Err (one_refused e _ (sym (numbered k some (omega (arith, no, few)))) refl) ∙ sym (ap answer is);
        number = sym (ap number_in is);
        table = sym (ap (λ (o : Outcome). leaves o old) is);
      }

  -- ---- the checks of the tables have found a refusal,
  pub ready_stops : (e : Refused) → at (number_of e.refusal) e.place ≡ found ready → (old : List ℤ) → Gives gives (Err e) old old
  ready_stops e lent = refusal e (stopped ready (stage_checks r c s) _ lent (λ d. omega (arith, d, refused_some e.refusal)))

  -- or k, which is none,
  module _ {k : Found} (lent : k ≡ found ready) where
    -- and the stage m
    module _ (z : k.no ≡ 0) {m : Found} {f : List FaceRow} {a : List (List ℤ)} (worked : StageSays r c s m f a) where
      found_both : m ≡ found checks
      found_both = worked.found ∙ went_on ready (stage_checks r c s) tt lent z

      pub stage_stops : (e : Refused) → m ≡ at (number_of e.refusal) e.place → (old : List ℤ) → Gives gives (Err e) old old
      stage_stops e is = refusal e (sym is ∙ found_both)

      module _ (y : m.no ≡ 0) where
        shown : (i : ℕ) → i < n → pools_seen a i ≡ next r c s i
        shown i l = ap as_pool ((worked.done y).pools i l)

        stored : pool_table n (pools_seen a) ≡ pool_table n (next r c s)
        stored = pools_are n (pool_table n (pools_seen a)) (next r c s) (length_pools n (pools_seen a))
            (λ i l. pool_in_table n (pools_seen a) i l ∙ shown i l)

        pub stage_done : (old : List ℤ) {new : List ℤ} {w v : ℤ} → new ≡ pool_table n (pools_seen a) → w ≡ (get_or f 0 no_face).volume
            → v ≡ (get_or f n no_face).volume → Gives gives (Ok (record { first = w; last = v })) old new
        unfolding answer number_in leaves code carry
        stage_done old e p q =
            let is = accepts _ _ _ checks (ap (λ (x : Found). x.no) (sym found_both) ∙ y) in
            let face = (worked.done y).faces in
            let left = p ∙ ap (λ (x : FaceRow). x.volume) (face 0 (omega arith)) in
            let right = q ∙ ap (λ (x : FaceRow). x.volume) (face n (omega arith)) in
            record {
              says = (λ j. Ok (record { first = left j; last = right j })) ∙ sym (ap answer is);
              number = sym (ap number_in is);
              table = e ∙ stored ∙ sym (ap (λ (o : Outcome). leaves o old) is);
            }
