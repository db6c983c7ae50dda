-- To be believed: all but the laws at the end.
-- What the calls say: one answer each, and one content of each lent table.
use Rattle.std.specs.Prelude.{◌≡◌, refl, List, ℕ, length, ℤ, Result, Ok, Err}
use Rattle.std.proofs.Common.{sym, ap, ◌∙◌, arith}
use Rattle.rules.specs.Lent.{Lent}
use Rattle.rules.specs.Sums.{Making, unmade, made, Reading, Question, unanswered, answered, keeping_of, sums_after}
use Rattle.reach.specs.declared.answer.Refusal.{Refusal}
use Rattle.reach.specs.declared.answer.Refused.{Refused}
use Rattle.reach.specs.Refusals.{number_of, told_number}
use Rattle.reach.specs.Gives.{Answer, refusal_of, Gives, one_answer, one_table, one_refused}
use Rattle.sums.specs.declared.Water.{Water}

-- of making, the sums are all filled; and of a question, the water
abbrev pub Made : Type 0
Made = Result (Unit {0}) Refusal

abbrev pub Amount : Type 0
Amount = Result Water Refusal

abbrev pub water_in : Water → Reading
water_in x = record { water = x.depth; cells = x.cells; blocks = x.blocks }

-- ---- the document's number and values of each answer
-- of a question: the number of a refusal, or what was read
unfoldable pub asked : Amount → Question
asked (Err k) = unanswered (number_of k)
asked (Ok x) = answered (water_in x)

-- and its number, 0 when it is answered
unfoldable pub question_code : Question → ℕ
question_code (unanswered k) = k
question_code (answered x) = 0

-- ---- what the calls give
-- the answer of making, its number, and what it leaves in the lent table
unfoldable pub made_answer : Making → Made
made_answer (unmade k) = Err (refusal_of k)
made_answer (made t) = Ok tt

unfoldable pub made_number : Making → ℕ
made_number (unmade k) = k
made_number (made t) = 0

unfoldable pub made_leaves : Making → List ℤ → List ℤ
made_leaves (unmade k) old = old
made_leaves (made t) old = t

pub record MakingGives (m : Making) (a : Made) (old new : List ℤ) : Type 0 where
  pub says : a ≡ made_answer m
  pub number : told_number a ≡ made_number m
  pub table : new ≡ made_leaves m old

-- the step that keeps the sums: the step's answer and table, and the sums
pub record KeepingGives (l : Lent) (a : Answer) (old new sums sums' : List ℤ) : Type 0 where
  pub step : Gives (keeping_of l (length sums)) a old new
  pub kept : sums' ≡ sums_after l.bed (keeping_of l (length sums)) sums

-- ---- one answer, and one content of each table
pub one_making : {m : Making} {a b : Made} {old new new' : List ℤ} → MakingGives m a old new → MakingGives m b old new'
    → (a ≡ b) × (new ≡ new')
one_making p q = (p.says ∙ sym q.says, p.table ∙ sym q.table)

pub one_amount : {q : Question} (a b : Amount) → asked a ≡ q → asked b ≡ q → a ≡ b
unfolding asked
one_amount a b p q = same a b (p ∙ sym q)
  where
    same : (a b : Amount) → asked a ≡ asked b → a ≡ b
    same (Err k) (Err m) e =
        let number : number_of k ≡ number_of m = cc in
        ap (λ (r : Refused). Err r.refusal)
        (one_refused (record { refusal = k; place = 0 }) (record { refusal = m; place = 0 }) number refl)
    same (Err k) (Ok y) e = let z : ◌≡◌ {A = ℕ} 0 1 = cc in let f : ⊥ = omega arith in absurd f
    same (Ok x) (Err m) e = let z : ◌≡◌ {A = ℕ} 0 1 = cc in let f : ⊥ = omega arith in absurd f
    same (Ok x) (Ok y) e =
        let p : water_in x ≡ water_in y = cc in λ i. Ok (record { depth = (p i).water; cells = (p i).cells; blocks = (p i).blocks })

pub one_keeping : {l : Lent} {a b : Answer} {old new new' sums s s' : List ℤ} → KeepingGives l a old new sums s
    → KeepingGives l b old new' sums s' → (a ≡ b) × (new ≡ new') × (s ≡ s')
one_keeping p q = (one_answer p.step q.step, one_table p.step q.step, p.kept ∙ sym q.kept)
