-- One reach and a call on it, surveyed from both ends. What is so of either survey is so of the other: a law of the left is turned for the
-- right (`from_other`).
-- Assumes nothing.
use Rattle.std.specs.Prelude.{◌≡◌, ℕ, suc, ◌+◌, ℤ}
use Rattle.std.proofs.Common.{sym, ◌∙◌, ap, ap₂, arith}
use Rattle.tables.specs.Cells.{Cell}
use Rattle.rules.specs.Reach.{Reach, Call, State, Bed, under}
use Rattle.survey.specs.Turned.{turned_cell}
use Rattle.survey.proofs.Laws.CellTwice.{cell_twice}
use Rattle.survey.proofs.Laws.Cell.{turned_bed}

-- the one as it stands, and of the other its bed and friction: only those at faces 0 to n and of cells below n count
pub record Surveys : Type 0 where
  pub reach : Reach
  pub call : Call
  pub bed : ℕ → ℤ
  pub rough : ℕ → ℤ
  pub beds : (i j : ℕ) → i + j ≡ reach.n → bed i ≡ reach.bed j
  pub roughs : (i j : ℕ) → suc (i + j) ≡ reach.n → rough i ≡ call.rough j

-- all else that the other says: the ends are exchanged
abbrev pub other_reach : Surveys → Reach
other_reach v = record { n = v.reach.n; dx = v.reach.dx; bed = v.bed; face = v.reach.face }

abbrev pub other_call : Surveys → Call
other_call v = let c = v.call in
    record { dt = c.dt; jump = c.jump; dry = c.dry; rough = v.rough; left = c.right; right = c.left }

-- the other one first
abbrev pub other : Surveys → Surveys
other v = record {
  reach = other_reach v;
  call = other_call v;
  bed = v.reach.bed;
  rough = v.call.rough;
  beds = λ i j o. sym (v.beds j i (omega arith));
  roughs = λ i j o. sym (v.roughs j i (omega arith));
}

-- cell i of the other survey and cell j of the one are the same
abbrev pub Opposite : Surveys → ℕ → ℕ → Type 0
Opposite v i j = suc (i + j) ≡ v.reach.n

-- but turned: the bed under it, and what it holds in a state t that is s turned round
pub under_turned : (v : Surveys) (i j : ℕ) → Opposite v i j → under (other_reach v) i ≡ turned_bed (under v.reach j)
under_turned v i j o =
    let l = v.beds i (suc j) (omega arith) in let r = v.beds (suc i) j (omega arith) in λ m. record { zl = l m; zr = r m }

abbrev pub Turned : Surveys → State → State → Type 0
Turned v s t = (i j : ℕ) → Opposite v i j → t i ≡ turned_cell (s j)

pub turned_back : (v : Surveys) (s t : State) → Turned v s t → Turned (other v) t s
turned_back v s t w i j o = sym (ap turned_cell (w j i (omega arith)) ∙ cell_twice (s i))

-- what is f of a cell there is g of the opposite one here
abbrev pub TurnsInto : {A : Type 0} → (Reach → Call → State → ℕ → A) → (Reach → Call → State → ℕ → A) → Type 0
TurnsInto f g = (v : Surveys) (s t : State) → Turned v s t → (i j : ℕ) → Opposite v i j
    → f (other_reach v) (other_call v) t i ≡ g v.reach v.call s j

-- then what is g there is f here: a law of the left is one of the right
pub from_other : {A : Type 0} (f g : Reach → Call → State → ℕ → A) → TurnsInto f g → TurnsInto g f
from_other f g h v s t w i j o = sym (h (other v) t s (turned_back v s t w) j i (omega arith))

-- what a rule of one cell f gives of every turned cell as g of the cell itself, it gives of opposite cells
pub opposite_cell : (v : Surveys) (s t : State) → Turned v s t → {A : Type 0} (f g : Bed → Cell → A)
    → ((b : Bed) (x : Cell) → f (turned_bed b) (turned_cell x) ≡ g b x)
    → (i j : ℕ) → Opposite v i j → f (under (other_reach v) i) (t i) ≡ g (under v.reach j) (s j)
opposite_cell v s t w f g h i j o = ap₂ f (under_turned v i j o) (w i j o) ∙ h (under v.reach j) (s j)
