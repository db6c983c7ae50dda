-- E8, the water between two faces, said of the calls themselves: of making the sums, of a question, and of the step that keeps the sums.
--
-- `MadeFrom`, `Answers` and `CallsKeeping` (in `SeenSums`) are what a caller sees of them. The contracts leave one answer and one content
-- of each lent table, so what follows is said of the calls that the rules have, and of no others.
-- Assumes nothing.
use Rattle.std.specs.Prelude.{◌≡◌, refl, T, eqb, ℤ, ◌+ℤ◌, ◌-ℤ◌}
use Rattle.std.proofs.Math.Path.{sym, ap}
use Rattle.std.proofs.Common.{◌∙◌, subst}
use Rattle.std.proofs.Math.Bool.{false}
use mathlib.Core.List.{List}
use Prim.Native.Nat.{ℕ, zero, suc, ◌+◌, ◌-◌, ◌≤◌, ◌<◌}
use native.Mathlib.Omega.{arith}
use borrow.Author.Tests.{le-ltb, eqb-true, eqb-false, ne_eqb}
use Rattle.std.proofs.Math.ListN.{length}
use Rattle.whole.specs.Flags.{by, clash}
use Rattle.rules.specs.Reach.{h0, z0}
use Rattle.rules.specs.Refusals.{Check, verdict}
use Rattle.rules.specs.Lent.{Lent, cells_of, number, filled, Outcome, refused, accepted, step_of}
use Rattle.rules.specs.StateAndBed.{cells_over, depth_in, state_checks, state_refusal}
use Rattle.rules.specs.Sums.{blocks_of, sum_from, sums_of, misfit_sums, making_checks, making_refusal, Making, unmade, made, making_of}
use Rattle.rules.specs.Sums.{Reading, reading, question_checks, Question, unanswered, answered, between_of}
use Rattle.rules.specs.Sums.{keeping_of, sums_after}
use Rattle.rules.proofs.Laws.Lengths.{accepts}
use Rattle.rules.proofs.Laws.StateAndBed.{state_clear}
use Rattle.rules.proofs.Laws.Written.{written_passes}
use Rattle.rules.proofs.Laws.Sums.{length_sums, between_water as rules-water}
use Rattle.rules.proofs.Laws.Questions.{sums_misfit, sums_fit, as_many, making_first, making_later, disordered, all_answered}
use Rattle.rules.proofs.Laws.Questions.{making_verdict, by_number, question_verdict, by_refusal, unkept, kept_step}
use Rattle.reach.specs.Refusals.{told_number}
use Rattle.reach.specs.Gives.{numbered}
use Rattle.step.specs.Gives.{Answer, code, placed, Gives, answer, number_in, leaves}
use Rattle.sums.specs.Gives.{Made, Amount, asked, question_code, made_answer, made_number, made_leaves, MakingGives, KeepingGives}
use Rattle.sums.specs.Gives.{one_making, one_amount, one_keeping}
use Rattle.sums.specs.Answered.{asked_few}
use Rattle.promises.specs.Seen.{FirstMet, mean_bed, mean_depth, total, water, Calls, none, more}
use Rattle.promises.specs.SeenSums.{water_between, MadeFrom, by_making, by_step, Answers}
use Rattle.promises.specs.SeenSums.{CallsKeeping, none_kept, more_kept}
use Rattle.promises.specs.First.{first_verdict, verdict_first, listed, first_listed}
use Rattle.promises.specs.ByChecks.{volumes_code}
use Rattle.promises.proofs.Outcomes.{coded, accepted_table}
use Rattle.promises.proofs.Promises as page

-- ---- demand 1: one answer, and one content of each table
pub make_one : {m : Making} {a b : Made} {old new new' : List ℤ} → MakingGives m a old new → MakingGives m b old new'
    → (a ≡ b) × (new ≡ new')
make_one p q = one_making p q

pub between_one : {q : Question} (a b : Amount) → asked a ≡ q → asked b ≡ q → a ≡ b
between_one a b p q = one_amount a b p q

pub step_one : {l : Lent} {a b : Answer} {old new new' was sums sums' : List ℤ} → KeepingGives l a old new was sums
    → KeepingGives l b old new' was sums' → (a ≡ b) × (new ≡ new') × (sums ≡ sums')
step_one p q = one_keeping p q

-- ---- what making gives, by its checks, in a table of so many sums
module _ (bed t : List ℤ) (many : ℕ) where
  abbrev first_no : ℕ
  first_no = verdict (making_checks bed t many)

  made_when : first_no ≡ 0 → making_of bed t many ≡ made (sums_of bed t)
  made_when e = by_number bed t many 0 (making_verdict bed t many ∙ e)

  unmade_when : (first_no ≡ 0 → ⊥) → making_of bed t many ≡ unmade first_no
  unmade_when f = by_number bed t many first_no (making_verdict bed t many) ∙ rw (ne_eqb first_no 0 f) refl

  -- their numbers are 1, 3 and 5, so its answer has its own number
  making_listed : T (listed (making_checks bed t many))
  unfolding making_checks state_checks
  making_listed = tt

  pub own_making : told_number (made_answer (making_of bed t many)) ≡ made_number (making_of bed t many)
  unfolding made_answer made_number
  own_making = by (eqb first_no 0)
      (λ b. let e = made_when (eqb-true first_no 0 b) in ap (λ (m : Making). told_number (made_answer m)) e ∙ sym (ap made_number e))
      (λ b.
      let f = eqb-false first_no 0 b in let e = unmade_when f in
      let in_list = first_listed first_no (verdict_first first_no (making_checks bed t many) (some f) refl) making_listed in
      ap (λ (m : Making). told_number (made_answer m)) e ∙ numbered first_no in_list.0 in_list.1 ∙ sym (ap made_number e))
    where
      some : (first_no ≡ 0 → ⊥) → 0 < first_no
      some f = omega (arith, f)

-- ---- making the sums of the state t, in a table that held `old`
module _ (bed t : List ℤ) {a : Made} {old new : List ℤ} (g : MakingGives (making_of bed t (length old)) a old new) where
  abbrev checks : List Check
  checks = making_checks bed t (length old)

  making_code : told_number a ≡ verdict checks
  unfolding made_number
  making_code = g.number ∙ by (eqb (verdict checks) 0)
      (λ b. let e = eqb-true (verdict checks) 0 b in ap made_number (made_when bed t (length old) e) ∙ sym e)
      (λ b. ap made_number (unmade_when bed t (length old) (eqb-false (verdict checks) 0 b)))

  -- refused with k exactly when a check numbered k is the first one met: 1, then 3 and 5; the table is then what it was
  pub make_refused_first : 0 < told_number a → FirstMet (told_number a) checks
  make_refused_first some = verdict_first (told_number a) checks some (sym making_code)

  pub make_first_refused : (k : ℕ) → FirstMet k checks → told_number a ≡ k
  make_first_refused k f = making_code ∙ first_verdict k f

  pub make_untouched : 0 < told_number a → new ≡ old
  unfolding made_leaves
  make_untouched some = g.table
      ∙ ap (λ (m : Making). made_leaves m old) (unmade_when bed t (length old) (λ e. let z = making_code in omega (arith, z)))

  -- else it has the sum of the mean depths of each block,
  pub make_sums : told_number a ≡ 0 → new ≡ sums_of bed t
  unfolding made_leaves
  make_sums e = g.table ∙ ap (λ (m : Making). made_leaves m old) (made_when bed t (length old) (sym making_code ∙ e))

  -- and the state passed its checks
  making_passed : told_number a ≡ 0 → state_refusal bed t ≡ 0
  making_passed e =
      let none : making_refusal bed t (length old) ≡ 0 = making_verdict bed t (length old) ∙ sym making_code ∙ e in
      by (misfit_sums (length old) (cells_over bed))
      (λ b. let z = making_first bed t (length old) b in let x : ⊥ = omega (arith, z) in absurd x)
      (λ b. sym (making_later bed t (length old) b) ∙ none)

-- ---- the step that keeps the sums, in a table that held `was`
module _ (l : Lent) {a : Answer} {old new was sums : List ℤ} (g : KeepingGives l a old new was sums) where
  abbrev outcome : Outcome
  outcome = keeping_of l (length was)

  -- sums that are not as many as there are blocks are a 1 without a place, before all else, and no table is touched;
  pub step_misfit : (length was ≡ blocks_of (cells_of l) → ⊥) → (code a ≡ 1) × (placed a ≡ 0) × (new ≡ old) × (sums ≡ was)
  unfolding placed answer number_in leaves sums_after
  step_misfit f =
      let e = unkept l (length was) (sums_misfit (length was) (cells_of l) f) in let says = g.step.says ∙ ap answer e in (
        g.step.number ∙ ap number_in e,
        ap placed says,
        g.step.table ∙ ap (λ (o : Outcome). leaves o old) e,
        g.kept ∙ ap (λ (o : Outcome). sums_after l.bed o was) e,
      )

  -- else it is the step, of which all that `Promises` says is said,
  pub step_same : length was ≡ blocks_of (cells_of l) → Gives (step_of l) a old new
  step_same e = subst (λ (o : Outcome). Gives o a old new) (kept_step l (length was) (sums_fit (length was) (cells_of l) e)) g.step

  -- which leaves the sums as they were when it is refused,
  pub step_untouched : 0 < code a → (new ≡ old) × (sums ≡ was)
  unfolding code answer leaves sums_after
  step_untouched some = by_case outcome g.step.says g.step.table g.kept
    where
      by_case : (o : Outcome) → a ≡ answer o → new ≡ leaves o old → sums ≡ sums_after l.bed o was → (new ≡ old) × (sums ≡ was)
      by_case (refused k p) says table kept = (table, kept)
      by_case (accepted t w v) says table kept = let z = ap code says in let f : ⊥ = omega (arith, z) in absurd f

  -- and as those of the new state when it is accepted
  pub fitting : code a ≡ 0 → length was ≡ blocks_of (cells_of l)
  fitting e = by (misfit_sums (length was) (cells_of l))
      (λ b. let z = (step_misfit (λ d. clash (sym (sums_fit (length was) (cells_of l) d) ∙ b))).0 in let f : ⊥ = omega (arith, z) in absurd f)
      (λ b. as_many (length was) (cells_of l) b)

  record Kept : Type 0 where
    gave : Gives (step_of l) a old new
    none : number l ≡ 0
    table : new ≡ filled l
    sums_are : sums ≡ sums_of l.bed new

  kept : code a ≡ 0 → Kept
  unfolding sums_after
  kept e =
      let same = step_same (fitting e) in let none = sym (coded l same) ∙ e in let table = accepted_table l same e in
      let o = kept_step l (length was) (sums_fit (length was) (cells_of l) (fitting e)) ∙ accepts l none in
      record {
        gave = same;
        none = none;
        table = table;
        sums_are = g.kept ∙ ap (λ (x : Outcome). sums_after l.bed x was) o ∙ sym (ap (sums_of l.bed) table);
      }

  pub step_sums : code a ≡ 0 → sums ≡ sums_of l.bed new
  step_sums e = (kept e).sums_are

-- ---- sums made of a state: one table, of a state that passed its checks
module _ {bed t : List ℤ} where
  passes : {sums : List ℤ} → MadeFrom bed t sums → (state_refusal bed t ≡ 0) × (sums ≡ sums_of bed t)
  passes (by_making a old sums g e) = (making_passed bed t g e, make_sums bed t g e)
  passes (by_step l a old was sums same g e) = let k = kept l g e in (
    subst (λ (z : List ℤ). state_refusal z t ≡ 0) same (rw k.table (written_passes l k.none)),
    k.sums_are ∙ ap (λ (z : List ℤ). sums_of z t) same,
  )

-- ---- a question, whatever the three tables hold
module _ (bed t sums : List ℤ) (a b : ℕ) (r : Amount) (g : asked r ≡ between_of bed t sums a b) where
  abbrev asks : List Check
  asks = question_checks bed t (length sums) a b

  answered_when : verdict asks ≡ 0 → asked r ≡ answered (reading bed t sums a b)
  answered_when e = g ∙ by_refusal bed t sums a b 0 (question_verdict bed t sums a b ∙ e)

  unanswered_when : (verdict asks ≡ 0 → ⊥) → asked r ≡ unanswered (verdict asks)
  unanswered_when f = g ∙ by_refusal bed t sums a b (verdict asks) (question_verdict bed t sums a b) ∙ rw (ne_eqb (verdict asks) 0 f) refl

  asked_code : question_code (asked r) ≡ verdict asks
  unfolding question_code
  asked_code = by (eqb (verdict asks) 0)
      (λ c. let e = eqb-true (verdict asks) 0 c in ap question_code (answered_when e) ∙ sym e)
      (λ c. ap question_code (unanswered_when (eqb-false (verdict asks) 0 c)))

  -- refused with k exactly when a check numbered k is the first one met: 1, then 10;
  pub question_refused_first : 0 < question_code (asked r) → FirstMet (question_code (asked r)) asks
  question_refused_first some = verdict_first (question_code (asked r)) asks some (sym asked_code)

  pub question_first_refused : (k : ℕ) → FirstMet k asks → question_code (asked r) ≡ k
  question_first_refused k f = asked_code ∙ first_verdict k f

  -- else it tells the blocks that lie whole within the range and the cells in none of those, as they stand,
  pub question_answered : question_code (asked r) ≡ 0 → asked r ≡ answered (reading bed t sums a b)
  question_answered e = answered_when (sym asked_code ∙ e)

  -- of which there are few
  pub question_few : (x : Reading) → asked r ≡ answered x → (x.cells ≤ 30) × (x.blocks ≤ 64)
  unfolding asked
  question_few x e = asked_few bed t sums a b (record { depth = x.water; cells = x.cells; blocks = x.blocks }) (sym e ∙ g)

-- ---- with the sums of the state: it is answered, and tells the water
between_is : (bed t : List ℤ) (a m : ℕ)
    → total (λ i. mean_depth bed t (cells_over bed) (a + i)) m ≡ sum_from (depth_in bed t) a m
unfolding total mean_depth mean_bed sum_from h0 z0
between_is bed t a zero = refl
between_is bed t a (suc m) = ap (λ (x : ℤ). x +ℤ depth_in bed t (a + m)) (between_is bed t a m)

module _ {bed t sums : List ℤ} (made : MadeFrom bed t sums) where
  abbrev n : ℕ
  n = cells_over bed

  -- whenever its faces are in order
  pub between_water : (a b : ℕ) (r : Amount) → asked r ≡ between_of bed t sums a b → a ≤ b → b ≤ n
      → Answers r (water_between bed t n a b)
  unfolding water_between
  between_water a b r g low high =
      let ok = passes made in
      let lengths = sums_fit (length sums) n (ap length ok.1 ∙ length_sums bed t) in
      let ordered : disordered bed t sums a b ≡ false = rw (le-ltb b a low, le-ltb n b high) in
      record {
        read = reading bed t sums a b;
        told = g ∙ all_answered bed t sums a b lengths (state_clear bed t ok.0) ordered;
        water = ap (λ (z : List ℤ). (reading bed t z a b).water) ok.1 ∙ rules-water bed t a b low high ∙ sym (between_is bed t a (b - a));
      }

  reach_water : (r : Amount) → asked r ≡ between_of bed t sums 0 n → Answers r (water bed t n)
  unfolding water_between water
  reach_water r g = let x = between_water 0 n r g (omega arith) (omega arith) in record {
    read = x.read;
    told = x.told;
    water = x.water ∙ all_cells;
  }
    where
      all_cells : total (λ i. mean_depth bed t n (0 + i)) (n - 0) ≡ total (mean_depth bed t n) n
      all_cells = let e : n - 0 ≡ n = omega arith in
          ap (total (λ i. mean_depth bed t n (0 + i))) e ∙ ap (λ (f : ℕ → ℤ). total f n) (λ j i. mean_depth bed t n (nought i j))
        where
          nought : (i : ℕ) → 0 + i ≡ i
          nought i = omega arith

  -- from the first face to the last that of the whole reach, with which demand 3 balances
  pub between_all : (r : Amount) → asked r ≡ between_of bed t sums 0 n → Answers r (water bed t n)
  between_all r g = reach_water r g

-- ---- over any number of accepted calls that keep the sums
module _ {bed : List ℤ} {n dx : ℕ} where
  -- they are calls of the step, so demand 3 is said of them,
  pub keeping_calls : {s t u z : List ℤ} {a b : ℤ} → CallsKeeping bed n dx s t u z a b → Calls bed n dx s t a b
  keeping_calls (none_kept t z) = none t
  keeping_calls (more_kept s m t u y z old x w v a b e c k) =
      more s m t old x w v a b e (record { given = c.given; gave = (kept _ c.gave (volumes_code x w v e)).gave }) (keeping_calls k)

  still_made : {s t u z : List ℤ} {a b : ℤ} → CallsKeeping bed n dx s t u z a b → MadeFrom bed s u → MadeFrom bed t z
  still_made (none_kept t z) h = h
  still_made (more_kept s m t u y z old x w v a b e c k) h =
      still_made k (by_step _ x old u y refl c.gave (volumes_code x w v e))

  -- and the table stays the one that `make` would make: it is accepted, and leaves in a table of that length the same sums
  pub stays_made : {s t u z : List ℤ} {a b : ℤ} → CallsKeeping bed n dx s t u z a b → MadeFrom bed s u
      → {x : Made} {old new : List ℤ} → length old ≡ length z → MakingGives (making_of bed t (length old)) x old new
      → (told_number x ≡ 0) × (new ≡ z)
  stays_made {t = t} {z = z} k h {x} {old} size g =
      let ok = passes (still_made k h) in
      let fit = sums_fit (length old) (cells_over bed) (size ∙ ap length ok.1 ∙ length_sums bed t) in
      let none = making_code bed t g ∙ making_none fit ok.0 in
      (none, make_sums bed t g none ∙ sym ok.1)
    where
      making_none : misfit_sums (length old) (cells_over bed) ≡ false → state_refusal bed t ≡ 0 → verdict (making_checks bed t (length old)) ≡ 0
      making_none fit e = sym (making_verdict bed t (length old)) ∙ making_later bed t (length old) fit ∙ e

  -- so what a question of the whole reach tells changes by what crosses the ends, to the unit
  pub between_balances : {s t u z : List ℤ} {a b : ℤ} → length bed ≡ suc n → CallsKeeping bed n dx s t u z a b → MadeFrom bed s u
      → (before after : Amount) → asked before ≡ between_of bed s u 0 n → asked after ≡ between_of bed t z 0 n
      → (w : ℤ) × Answers before w × Answers after (w +ℤ a -ℤ b)
  between_balances {s} {t} {u} {z} size k h before after g f =
      let e : cells_over bed ≡ n = omega (arith, size) in (
        water bed s n,
        over e s before (reach_water h before (onto e s u before g)),
        subst (Answers after) (page.water_balances bed n dx (keeping_calls k))
            (over e t after (reach_water (still_made k h) after (onto e t z after f))),
      )
    where
      onto : cells_over bed ≡ n → (t z : List ℤ) (r : Amount) → asked r ≡ between_of bed t z 0 n
          → asked r ≡ between_of bed t z 0 (cells_over bed)
      onto e t z r g = subst (λ (m : ℕ). asked r ≡ between_of bed t z 0 m) (sym e) g

      over : cells_over bed ≡ n → (t : List ℤ) (r : Amount) → Answers r (water bed t (cells_over bed)) → Answers r (water bed t n)
      over e t r x = subst (λ (m : ℕ). Answers r (water bed t m)) e x
