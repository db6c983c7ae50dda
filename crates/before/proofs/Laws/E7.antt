-- The step on columns gives the columns of what the step on cells gave, with the same numbers and volumes.
-- Assumes nothing.
use Rattle.std.specs.Prelude.{◌≡◌, refl, false, List, [], ◌∷◌, ℕ, zero, suc, ◌*◌, ◌<◌, eqb, length, ℤ}
use Rattle.std.proofs.Math.Path.{sym}
use Rattle.std.proofs.Common.{◌∙◌, ap, not-suc-le-zero, arith}
use Rattle.std.proofs.Math.Decide.{ℕ_discrete}
use borrow.Author.Tests.{eqb-true, eq-eqb, ne_eqb}
use Rattle.whole.specs.Flags.{by}
use Rattle.tables.specs.Rows.{row, row_same}
use Rattle.tables.specs.Cells.{Cell, cell_in, table_of}
use Rattle.tables.proofs.Cells.{length_table, cell_in_table, table_cells, table_same}
use Rattle.rules.specs.Reach.{Reach, Call, State}
use Rattle.rules.specs.Step.{next}
use Rattle.rules.specs.Lent as lent
use Rattle.rules.specs.Lent.{Lent, cells_of, reach_of, call_of, misfit, misfits, filled, crossed}
use Rattle.rules.specs.Refusals.{refusal}
use Rattle.rules.proofs.Laws.Alike.{same_number}
use Rattle.rules.specs.Laws.Agree.{Same}
use Rattle.rules.proofs.Laws.Agree.{carry_same, next_same, checks_same}
use Rattle.rules.proofs.Laws.Lengths.{fitted, first_number, later_number, fits}
use Rattle.before.specs.E13 as E13
use Rattle.before.specs.E13.{accepted}
use Rattle.before.specs.E7.{cell_at, flat, state_of, number, step_of, rearranged, into_columns, into_cells, ColumnsOfOne}
use Rattle.before.specs.E7.{lending, lent_in_columns, lent_in_cells, given_in_columns}
use Rattle.before.proofs.Laws.Shift.{shift}

-- ---- tables of cells
-- a table of 4n numbers is the table of its cells
flat_cells : (n : ℕ) (s : List ℤ) → length s ≡ 4 * n → flat (row n (cell_at s)) ≡ s
unfolding flat row
flat_cells zero [] e = refl
flat_cells zero (x ∷ s) e = absurd (let z : suc (length s) ≡ 0 = e in omega arith)
flat_cells (suc n) [] e = absurd (let z : 0 ≡ 4 * suc n = e in omega arith)
flat_cells (suc n) (a ∷ []) e = absurd (let z : 1 ≡ 4 * suc n = e in omega arith)
flat_cells (suc n) (a ∷ b ∷ []) e = absurd (let z : 2 ≡ 4 * suc n = e in omega arith)
flat_cells (suc n) (a ∷ b ∷ c ∷ []) e = absurd (let z : 3 ≡ 4 * suc n = e in omega arith)
flat_cells (suc n) (a ∷ b ∷ c ∷ d ∷ s) e =
    let l : length s ≡ 4 * n = (let z : suc (suc (suc (suc (length s)))) ≡ 4 * suc n = e in omega arith) in
    ap (λ (r : List ℤ). a ∷ b ∷ c ∷ d ∷ r)
    (ap flat (row_same n (λ k. cell_at (a ∷ b ∷ c ∷ d ∷ s) (suc k)) (cell_at s) (λ k h. shift a b c d s k)) ∙ flat_cells n s l)

-- the table of a row of cells shows them again
length_flat : (n : ℕ) (f : ℕ → Cell) → length (flat (row n f)) ≡ 4 * n
unfolding flat row
length_flat zero f = refl
length_flat (suc n) f = let e : length (flat (row n (λ k. f (suc k)))) ≡ 4 * n = length_flat n (λ k. f (suc k)) in omega arith

cell_at_flat : (n : ℕ) (f : ℕ → Cell) (k : ℕ) → k < n → cell_at (flat (row n f)) k ≡ f k
unfolding flat row
cell_at_flat zero f k h = absurd (not-suc-le-zero h)
cell_at_flat (suc n) f zero h = refl
cell_at_flat (suc n) f (suc k) h = let c = f zero in let s = flat (row n (λ j. f (suc j))) in
    shift c.e0 c.e1 c.q0 c.q1 s k ∙ cell_at_flat n (λ j. f (suc j)) k (omega arith)

-- ---- rows and columns exchanged
module _ (n : ℕ) (f : List ℤ → List ℤ) where
  fitting : (t : List ℤ) → length t ≡ 4 * n → rearranged n f t ≡ f t
  unfolding rearranged
  fitting t e = rw (eq-eqb (length t) (4 * n) e)

  other : (t : List ℤ) → (length t ≡ 4 * n → ⊥) → rearranged n f t ≡ t
  unfolding rearranged
  other t h = rw (ne_eqb (length t) (4 * n) h)

  module _ (size : (t : List ℤ) → length (f t) ≡ 4 * n) (t : List ℤ) where
    length_kept : length (rearranged n f t) ≡ length t
    length_kept = go (ℕ_discrete (length t) (4 * n))
      where
        go : Dec (length t ≡ 4 * n) → length (rearranged n f t) ≡ length t
        go (yes e) = ap length (fitting t e) ∙ size t ∙ sym e
        go (no h) = ap length (other t h)

there_and_back : (n : ℕ) (f g : List ℤ → List ℤ) → ((t : List ℤ) → length (f t) ≡ 4 * n)
    → ((t : List ℤ) → length t ≡ 4 * n → g (f t) ≡ t) → (t : List ℤ) → rearranged n g (rearranged n f t) ≡ t
there_and_back n f g size back t = go (ℕ_discrete (length t) (4 * n))
  where
    go : Dec (length t ≡ 4 * n) → rearranged n g (rearranged n f t) ≡ t
    go (yes e) = ap (rearranged n g) (fitting n f t e) ∙ fitting n g (f t) (size t) ∙ back t e
    go (no h) = ap (rearranged n g) (other n f t h) ∙ other n g t h

module _ (n : ℕ) where
  abbrev columned : List ℤ → List ℤ
  columned t = table_of n (cell_at t)

  abbrev celled : List ℤ → List ℤ
  celled t = flat (row n (cell_in n t))

  columns_of : (t : List ℤ) → length t ≡ 4 * n → into_columns n t ≡ table_of n (cell_at t)
  columns_of = fitting n columned

  length_columns : (t : List ℤ) → length (into_columns n t) ≡ length t
  length_columns = length_kept n columned (λ t. length_table n (cell_at t))

  columns_cells : (t : List ℤ) → into_columns n (into_cells n t) ≡ t
  columns_cells = there_and_back n celled columned (λ t. length_flat n (cell_in n t))
      (λ t e. table_same n (cell_at (celled t)) (cell_in n t) (cell_at_flat n (cell_in n t)) ∙ table_cells n t e)

  cells_columns : (t : List ℤ) → into_cells n (into_columns n t) ≡ t
  cells_columns = there_and_back n columned celled (λ t. length_table n (cell_at t))
      (λ t e. ap flat (row_same n (cell_in n (columned t)) (cell_at t) (cell_in_table n (cell_at t))) ∙ flat_cells n t e)

  -- so a table of 4n numbers is the columns of one table of cells
  pub of_one : (t : List ℤ) → length t ≡ 4 * n → ColumnsOfOne n t
  of_one t e = let size = length_kept n celled (λ s. length_flat n (cell_in n s)) t ∙ e in record {
    cells = into_cells n t;
    size = size;
    columns = sym (columns_cells t) ∙ columns_of (into_cells n t) size;
    only = λ s l h. sym (cells_columns s) ∙ ap (into_cells n) (columns_of s l ∙ sym h);
  }

-- ---- the call
module _ (a : Lent) where
  abbrev n : ℕ
  n = cells_of a

  abbrev r : Reach
  r = reach_of a

  abbrev c : Call
  c = call_of a

  -- the call in columns, and its state
  abbrev b : Lent
  b = lent_in_columns a

  abbrev t : State
  t = lent.state_of b

  misfits_same : misfits b ≡ misfits a
  misfits_same = λ j. misfit (length_columns n a.now j) a.room (length a.bed) n

  module _ (f : misfits a ≡ false) where
    some_cell : 0 < n
    some_cell = (fitted (length a.now) a.room (length a.bed) n f).some

    state_same : Same r t (state_of a)
    state_same k l =
        let e = columns_of n a.now (fitted (length a.now) a.room (length a.bed) n f).now in
        ap (λ (u : List ℤ). cell_in n u k) e ∙ cell_in_table n (cell_at a.now) k l

    table_in_columns : table_of n (next r c t) ≡ into_columns n (flat (row n (next r c (state_of a))))
    table_in_columns = let s = next r c (state_of a) in
        table_same n (next r c t) (cell_at (flat (row n s))) (λ k l. next_same r c t (state_of a) state_same k l ∙ sym (cell_at_flat n s k l))
        ∙ sym (columns_of n (flat (row n s)) (length_flat n s))

  refusal_same : misfits a ≡ false → refusal r c t ≡ refusal r c (state_of a)
  unfolding refusal
  refusal_same z = same_number (checks_same r c t (state_of a) (state_same z) (some_cell z))

  number_same : lent.number b ≡ number a
  unfolding number
  number_same = by (misfits a)
      (λ z. first_number b (misfits_same ∙ z) ∙ rw z)
      (λ z. later_number b (misfits_same ∙ z) ∙ refusal_same z ∙ rw z)

  pub in_columns : E13.step_of b ≡ given_in_columns n (step_of a)
  unfolding E13.step_of step_of given_in_columns filled crossed
  in_columns = by (eqb (number a) 0)
      (λ z. let f = sym misfits_same ∙ fits b (number_same ∙ eqb-true (number a) 0 z) in let o = some_cell f in
      rw (number_same, z) (λ j. accepted (table_in_columns f j) (carry_same r c t (state_of a) (state_same f) o 0 (omega arith) j)
      (carry_same r c t (state_of a) (state_same f) o n (omega arith) j)))
      (λ z. rw (number_same, z))

-- so it is of every call, since every table is the columns of one
pub from_cells : (a : Lent) → E13.step_of a ≡ given_in_columns (cells_of a) (step_of (lent_in_cells a))
from_cells a =
    ap (λ (t : List ℤ). E13.step_of (lending t a)) (sym (columns_cells (cells_of a) a.now)) ∙ in_columns (lent_in_cells a)
