-- To be believed. The water between two faces: the sums of blocks of cells, what a question reads of them, and the step that keeps them.
use Rattle.std.specs.Prelude.{Bool, not, cond, ◌&&◌, ◌||◌, List, [], ◌∷◌, ℕ, zero, suc, ◌+◌, ◌-◌, ◌*◌, ◌/◌, eqb, leb, ltb, length, get_or, ℤ, pos, ◌+ℤ◌}
use Rattle.tables.specs.Rows.{row}
use Rattle.rules.specs.Limits.{block_cells}
use Rattle.rules.specs.Refusals.{Check, of_call, verdict}
use Rattle.rules.specs.Lent.{Lent, cells_of, Outcome, refused, accepted, step_of}
use Rattle.rules.specs.StateAndBed.{cells_over, depth_in, misfit_state, state_checks}

-- ---- blocks
-- how many n cells make, the last perhaps shorter than the others
abbrev pub blocks_of : ℕ → ℕ
blocks_of n = (n + (block_cells - 1)) / block_cells

-- the first cell of block k; and the first after it
abbrev pub block_from : ℕ → ℕ
block_from k = block_cells * k

unfoldable pub block_to : ℕ → ℕ → ℕ
block_to n k = cond (leb (block_from (suc k)) n) (block_from (suc k)) n

-- ---- sums
-- of f's values at k places, from a on; and from a up to b, without b
unfoldable pub sum_from : (ℕ → ℤ) → ℕ → ℕ → ℤ
sum_from f a zero = pos 0
sum_from f a (suc k) = sum_from f a k +ℤ f (a + k)

abbrev pub sum_to : (ℕ → ℤ) → ℕ → ℕ → ℤ
sum_to f a b = sum_from f a (b - a)

-- of the mean depths of block k; and the table of them all
unfoldable pub block_sum : List ℤ → List ℤ → ℕ → ℤ
block_sum bed t k = sum_to (depth_in bed t) (block_from k) (block_to (cells_over bed) k)

unfoldable pub sums_of : List ℤ → List ℤ → List ℤ
sums_of bed t = row (blocks_of (cells_over bed)) (block_sum bed t)

-- 1: a sums table of so many entries does not fit n cells
abbrev pub misfit_sums : ℕ → ℕ → Bool
misfit_sums sums n = not (eqb sums (blocks_of n))

-- ---- making the sums: 1, then 3 and 5
unfoldable pub making_checks : List ℤ → List ℤ → ℕ → List Check
making_checks bed t sums = of_call 1 (misfit_sums sums (cells_over bed)) ∷ state_checks bed t

unfoldable pub making_refusal : List ℤ → List ℤ → ℕ → ℕ
making_refusal bed t sums = verdict (making_checks bed t sums)

-- what it gives: a number and an unchanged table, or the table
pub data Making : Type 0 where
  unmade : ℕ → Making
  made : List ℤ → Making

unfoldable pub making_of : List ℤ → List ℤ → ℕ → Making
making_of bed t sums = let k = making_refusal bed t sums in cond (eqb k 0) (made (sums_of bed t)) (unmade k)

-- ---- the water between faces a and b
-- of the places below n those that have p: how many they are; and f's value there, nought elsewhere
unfoldable pub count : (ℕ → Bool) → ℕ → ℕ
count p zero = 0
count p (suc n) = count p n + cond (p n) 1 0

abbrev pub only : (ℕ → Bool) → (ℕ → ℤ) → ℕ → ℤ
only p f i = cond (p i) (f i) (pos 0)

-- block k lies whole within a to b; cell i lies there, and its block does not lie whole
unfoldable pub whole_block : ℕ → ℕ → ℕ → ℕ → Bool
whole_block n a b k = leb a (block_from k) && leb (block_to n k) b

unfoldable pub lone_cell : ℕ → ℕ → ℕ → ℕ → Bool
lone_cell n a b i = leb a i && ltb i b && not (whole_block n a b (i / block_cells))

-- what is read, as it stands: the water, and how many cells and blocks
pub record Reading : Type 0 where
  pub water : ℤ
  pub cells : ℕ
  pub blocks : ℕ

unfoldable pub reading : List ℤ → List ℤ → List ℤ → ℕ → ℕ → Reading
reading bed t sums a b = let n = cells_over bed in record {
  water = sum_to (only (whole_block n a b) (λ k. get_or sums k (pos 0))) 0 (blocks_of n) +ℤ sum_to (only (lone_cell n a b) (depth_in bed t)) 0 n;
  cells = count (lone_cell n a b) n;
  blocks = count (whole_block n a b) (blocks_of n);
}

-- 1, then 10: the faces are in the wrong order, or beyond the reach
unfoldable pub question_checks : List ℤ → List ℤ → ℕ → ℕ → ℕ → List Check
question_checks bed t sums a b = let n = cells_over bed in
    of_call 1 (misfit_sums sums n) ∷ of_call 1 (misfit_state (length t) n) ∷ of_call 10 (ltb b a || ltb n b) ∷ []

unfoldable pub question_refusal : List ℤ → List ℤ → ℕ → ℕ → ℕ → ℕ
question_refusal bed t sums a b = verdict (question_checks bed t sums a b)

-- what a question gives: a number, or the reading
pub data Question : Type 0 where
  unanswered : ℕ → Question
  answered : Reading → Question

unfoldable pub between_of : List ℤ → List ℤ → List ℤ → ℕ → ℕ → Question
between_of bed t sums a b = let k = question_refusal bed t (length sums) a b in
    cond (eqb k 0) (answered (reading bed t sums a b)) (unanswered k)

-- ---- the step that keeps the sums: a sums table that does not fit is a 1, before all else
unfoldable pub keeping_of : Lent → ℕ → Outcome
keeping_of a sums = cond (misfit_sums sums (cells_of a)) (refused 1 0) (step_of a)

-- it leaves the sums of the new state, or of a refused step what the table held
unfoldable pub sums_after : List ℤ → Outcome → List ℤ → List ℤ
sums_after bed (refused k p) old = old
sums_after bed (accepted t w v) old = sums_of bed t
