-- To be believed: all above "from an answer to what is told".
-- What a caller in C is told: a number, and what is written into each table that it lent.
use Rattle.std.specs.Prelude.{◌≡◌, refl, List, ℕ, ◌≤◌, eqb, length, set, ℤ, pos, Float, Option, Some, None, Result, Ok, Err}
use Rattle.std.proofs.Common.{sym, ap, ◌∙◌, arith}
use Rattle.whole.specs.Flags.{cond_ind}
use Rattle.rules.specs.Limits.{most_cells}
use Rattle.rules.specs.Face.{Flux}
use Rattle.rules.specs.Refusals.{verdict, spot}
use Rattle.rules.specs.Lent.{Lent, cells_of, number, place, filled, crossed, Outcome, refused, accepted, outcome, step_of}
use Rattle.rules.specs.Sums.{misfit_sums, Making, Question, unanswered, answered, keeping_of, sums_after}
use Rattle.rules.proofs.Laws.Within.{place_most}
use Rattle.sill_rules.specs.Lent as sills
use Rattle.sill_rules.proofs.Laws.Within as sill-places
use Rattle.reach.specs.declared.Given.{Given}
use Rattle.reach.specs.declared.answer.Refused.{Refused}
use Rattle.reach.specs.declared.answer.Volumes.{Volumes}
use Rattle.reach.specs.Refusals.{number_of}
use Rattle.reach.specs.Gives.{Answer, answer, number_in, leaves, code, placed, Gives}
use Rattle.root.specs.Root.{RootIs}
use Rattle.double.specs.Face.{FaceIs}
use Rattle.double.specs.declared.face.Flux.{Flux as DoubleFlux}
use Rattle.double.specs.declared.face.OutOfRange.{OutOfRange}
use Rattle.root.proofs.Unique.{root_unique}
use Rattle.double.proofs.face.Unique as doubles
use Rattle.sums.specs.Gives.{made_number, made_leaves, question_code}

-- ---- the step
-- what an outcome leaves in the two volumes
unfoldable pub volumes_of : Outcome → List ℤ → List ℤ
volumes_of (refused k p) old = old
volumes_of (accepted t w v) old = set (set old 0 w) 1 v

-- the number, which is one of the list, the new state, the volumes, and the place, which every outcome writes
pub record StepTold (o : Outcome) (r : ℕ) (old new volumes volumes' : List ℤ) (places places' : List ℕ) : Type 0 where
  pub number : r ≡ code (answer o)
  pub listed : code (answer o) ≡ number_in o
  pub table : new ≡ leaves o old
  pub crossed : volumes' ≡ volumes_of o volumes
  pub place : places' ≡ set places 0 (placed (answer o))

-- what is lent and given to one over a stepped bed
abbrev pub sill_lend : List ℤ → ℕ → List ℤ → List ℕ → ℕ → ℕ → ℕ → ℕ → ℕ → sills.Lent
sill_lend state room bed friction dx dt dry left right = record {
  now = state;
  room = room;
  bed = bed;
  friction = friction;
  dx = dx;
  dt = dt;
  dry = dry;
  left = left;
  right = right;
}

-- ---- the sums
-- of the step that keeps them: as of the step, and the sums
pub record KeepingTold (l : Lent) (r : ℕ) (old new sums sums' volumes volumes' : List ℤ) (places places' : List ℕ) : Type 0 where
  pub step : StepTold (keeping_of l (length sums)) r old new volumes volumes' places places'
  pub kept : sums' ≡ sums_after l.bed (keeping_of l (length sums)) sums

-- of making them: the number, and the sums
pub record MakingTold (m : Making) (r : ℕ) (old new : List ℤ) : Type 0 where
  pub number : r ≡ made_number m
  pub table : new ≡ made_leaves m old

-- of a question: the number, and the water, the cells and the blocks
unfoldable pub reading_into : Question → List ℤ → List ℤ
reading_into (unanswered k) old = old
reading_into (answered x) old = set (set (set old 0 x.water) 1 (pos x.cells)) 2 (pos x.blocks)

pub record QuestionTold (q : Question) (r : ℕ) (old new : List ℤ) : Type 0 where
  pub number : r ≡ question_code q
  pub reading : new ≡ reading_into q old

-- ---- the face
unfoldable pub face_code : Option Flux → ℕ
face_code (Some f) = 0
face_code None = 1

unfoldable pub flux_into : Option Flux → List ℤ → List ℤ
flux_into (Some f) old = set (set (set (set old 0 f.F) 1 f.K) 2 f.A) 3 f.S
flux_into None old = old

pub record FaceTold (p : Option Flux) (r : ℕ) (old new : List ℤ) : Type 0 where
  pub number : r ≡ face_code p
  pub flux : new ≡ flux_into p old

-- ---- the double face, and the root: the answer that the contract leaves, as a number and what is written
abbrev pub DoubleAnswer : Type 0
DoubleAnswer = Result (Option DoubleFlux) OutOfRange

unfoldable pub double_code : DoubleAnswer → ℕ
double_code (Ok (Some f)) = 0
double_code (Ok None) = 1
double_code (Err e) = 2

unfoldable pub double_into : DoubleAnswer → List Float → List Float
double_into (Ok (Some f)) old = set (set (set (set old 0 f.mass) 1 f.pressure) 2 f.advection) 3 f.top
double_into (Ok None) old = old
double_into (Err e) old = old

pub record DoubleTold (hl ul hr ur : Float) (r : ℕ) (old new : List Float) : Type 0 where
  pub answer : DoubleAnswer
  pub is : FaceIs hl ul hr ur answer
  pub number : r ≡ double_code answer
  pub flux : new ≡ double_into answer old

unfoldable pub root_code : Option Float → ℕ
root_code (Some y) = 0
root_code None = 1

unfoldable pub root_into : Option Float → List Float → List Float
root_into (Some y) old = set old 0 y
root_into None old = old

pub record RootTold (x : Float) (r : ℕ) (old new : List Float) : Type 0 where
  pub answer : Option Float
  pub is : RootIs x answer
  pub number : r ≡ root_code answer
  pub root : new ≡ root_into answer old

-- ---- from an answer to what is told
-- the numbers of a call, as the step takes them
abbrev pub given_by : ℕ → ℕ → ℕ → ℕ → ℕ → ℕ → ℕ → ℕ → Given
given_by dx dt jump dry left right leftQ rightQ = record {
  dx = dx;
  dt = dt;
  jump = jump;
  dry = dry;
  left = record { kind = left; q = leftQ };
  right = record { kind = right; q = rightQ };
}

-- what an answer leaves in the two volumes; and all that is told of it
unfoldable pub volumes_in : Answer → List ℤ → List ℤ
volumes_in (Err e) old = old
volumes_in (Ok v) old = set (set old 0 v.first) 1 v.last

pub record AnswerTold (a : Answer) (r : ℕ) (volumes volumes' : List ℤ) (places places' : List ℕ) : Type 0 where
  pub number : r ≡ code a
  pub crossed : volumes' ≡ volumes_in a volumes
  pub place : places' ≡ set places 0 (placed a)

pub refused_told : {a : Answer} (e : Refused) (old : List ℤ) (places : List ℕ) → Err e ≡ a
    → AnswerTold a (number_of e.refusal) old old places (set places 0 e.place)
unfolding code volumes_in placed
refused_told e old places is = record {
  number = ap code is;
  crossed = ap (λ (x : Answer). volumes_in x old) is;
  place = ap (λ (x : Answer). set places 0 (placed x)) is;
}

pub accepted_told : {a : Answer} (v : Volumes) (old : List ℤ) (places : List ℕ) → Ok v ≡ a
    → AnswerTold a 0 old (set (set old 0 v.first) 1 v.last) places (set places 0 0)
unfolding code volumes_in placed
accepted_told v old places is = record {
  number = ap code is;
  crossed = ap (λ (x : Answer). volumes_in x old) is;
  place = ap (λ (x : Answer). set places 0 (placed x)) is;
}

same_volumes : (o : Outcome) (old : List ℤ) → volumes_in (answer o) old ≡ volumes_of o old
unfolding answer volumes_in volumes_of
same_volumes (refused k p) old = refl
same_volumes (accepted t w v) old = refl

pub step_told : {o : Outcome} {a : Answer} {r : ℕ} {old new volumes volumes' : List ℤ} {places places' : List ℕ}
    → Gives o a old new → AnswerTold a r volumes volumes' places places' → StepTold o r old new volumes volumes' places places'
step_told {o} {volumes = vs} {places = ps} g t = record {
  number = t.number ∙ ap code g.says;
  listed = sym (ap code g.says) ∙ g.number;
  table = g.table;
  crossed = t.crossed ∙ ap (λ (a : Answer). volumes_in a vs) g.says ∙ same_volumes o vs;
  place = t.place ∙ ap (λ (a : Answer). set ps 0 (placed a)) g.says;
}

-- the place of a call is small enough for 32 bits
pub step_place : (l : Lent) {a : Answer} → a ≡ answer (step_of l) → placed a ≤ most_cells
unfolding answer step_of placed
step_place l {a} e = rw e (cond_ind (eqb (number l) 0)
    (accepted (filled l) (crossed l 0) (crossed l (cells_of l))) (refused (number l) (place l))
    (λ (o : Outcome). placed (answer o) ≤ most_cells) (λ b. omega arith) (λ b. place_most l))

pub keeping_place : (l : Lent) (sums : ℕ) {a : Answer} → a ≡ answer (keeping_of l sums) → placed a ≤ most_cells
unfolding answer keeping_of placed
keeping_place l sums e = rw e (cond_ind (misfit_sums sums (cells_of l)) (refused 1 0) (step_of l)
    (λ (o : Outcome). placed (answer o) ≤ most_cells) (λ b. omega arith) (λ b. step_place l refl))

pub sill_place : (l : sills.Lent) {a : Answer} → a ≡ answer (sills.step_of l) → placed a ≤ most_cells
unfolding answer sills.step_of outcome placed
sill_place l {a} e = rw e (cond_ind (eqb (verdict (sills.all_checks l)) 0)
    (accepted (sills.filled l) (sills.crossed l 0) (sills.crossed l (sills.cells_of l)))
    (refused (verdict (sills.all_checks l)) (spot (sills.all_checks l)))
    (λ (o : Outcome). placed (answer o) ≤ most_cells) (λ b. omega arith) (λ b. sill-places.place_most l))

-- the two counts of a question
pub read_told : (q : Question) (w : ℤ) (c b : ℕ) (old : List ℤ) → answered (record { water = w; cells = c; blocks = b }) ≡ q
    → QuestionTold q 0 old (set (set (set old 0 w) 1 (pos c)) 2 (pos b))
unfolding question_code reading_into
read_told q w c b old e = record { number = ap question_code e; reading = ap (λ (x : Question). reading_into x old) e }

pub unread_told : (q : Question) (k : ℕ) (old : List ℤ) → unanswered k ≡ q → QuestionTold q k old old
unfolding question_code reading_into
unread_told q k old e = record { number = ap question_code e; reading = ap (λ (x : Question). reading_into x old) e }

pub face_flux : (f : Flux) (old : List ℤ) → FaceTold (Some f) 0 old (set (set (set (set old 0 f.F) 1 f.K) 2 f.A) 3 f.S)
unfolding face_code flux_into
face_flux f old = record { number = refl; flux = refl }

pub face_none : (old : List ℤ) → FaceTold None 1 old old
unfolding face_code flux_into
face_none old = record { number = refl; flux = refl }

-- ---- one number, and one content of each table
pub step_one : {o : Outcome} {r r' : ℕ} {old new new' w v v' : List ℤ} {x y y' : List ℕ}
    → StepTold o r old new w v x y → StepTold o r' old new' w v' x y' → (r ≡ r') × (new ≡ new') × (v ≡ v') × (y ≡ y')
step_one p q =
    (p.number ∙ sym q.number, p.table ∙ sym q.table, p.crossed ∙ sym q.crossed, p.place ∙ sym q.place)

pub keeping_one : {l : Lent} {r r' : ℕ} {old new new' sums s s' w v v' : List ℤ} {x y y' : List ℕ}
    → KeepingTold l r old new sums s w v x y → KeepingTold l r' old new' sums s' w v' x y'
    → (r ≡ r') × (new ≡ new') × (v ≡ v') × (y ≡ y') × (s ≡ s')
keeping_one p q = let z = step_one p.step q.step in (z.0, z.1, z.2, z.3, p.kept ∙ sym q.kept)

pub making_one : {m : Making} {r r' : ℕ} {old new new' : List ℤ} → MakingTold m r old new → MakingTold m r' old new'
    → (r ≡ r') × (new ≡ new')
making_one p q = (p.number ∙ sym q.number, p.table ∙ sym q.table)

pub question_one : {x : Question} {r r' : ℕ} {old new new' : List ℤ} → QuestionTold x r old new → QuestionTold x r' old new'
    → (r ≡ r') × (new ≡ new')
question_one p q = (p.number ∙ sym q.number, p.reading ∙ sym q.reading)

pub face_one : {p : Option Flux} {r r' : ℕ} {old new new' : List ℤ} → FaceTold p r old new → FaceTold p r' old new'
    → (r ≡ r') × (new ≡ new')
face_one p q = (p.number ∙ sym q.number, p.flux ∙ sym q.flux)

pub double_one : {hl ul hr ur : Float} {r r' : ℕ} {old new new' : List Float} → DoubleTold hl ul hr ur r old new
    → DoubleTold hl ul hr ur r' old new' → (r ≡ r') × (new ≡ new')
double_one {hl} {ul} {hr} {ur} {old = old} p q = let e = doubles.face_unique hl ul hr ur p.answer q.answer p.is q.is in
    (p.number ∙ ap double_code e ∙ sym q.number, p.flux ∙ ap (λ (x : DoubleAnswer). double_into x old) e ∙ sym q.flux)

pub root_one : {x : Float} {r r' : ℕ} {old new new' : List Float} → RootTold x r old new → RootTold x r' old new' → (r ≡ r') × (new ≡ new')
root_one {old = old} p q = let e = root_unique p.is q.is in
    (p.number ∙ ap root_code e ∙ sym q.number, p.root ∙ ap (λ (x : Option Float). root_into x old) e ∙ sym q.root)
