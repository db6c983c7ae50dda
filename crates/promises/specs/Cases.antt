-- What the statements of proofs/Cases speak of.
-- Calls small enough for the checker to work them, and a state with its sums. What each gives is stated there.
use Rattle.std.specs.Prelude.{List, [], ◌∷◌, ℕ, suc, ℤ, pos, neg_ℤ}
use Rattle.tables.specs.Rows.{row}
use Rattle.tables.specs.Cells.{table_of}
use Rattle.rules.specs.Lent.{Lent}
use Rattle.rules.specs.Sums.{Question, answered}
use Rattle.step.specs.Gives.{end, lend}

-- ---- two cells of 1 m on a flat bed between walls, water 1.5 m deep in the left one and 1 m in the right one
abbrev pub uneven : List ℤ
uneven = pos 6144 ∷ pos 4096 ∷ pos 0 ∷ pos 0 ∷ pos 0 ∷ pos 0 ∷ pos 0 ∷ pos 0 ∷ []

abbrev pub moved : List ℤ
moved = pos 5981 ∷ pos 4259 ∷ neg_ℤ (pos 275) ∷ neg_ℤ (pos 255) ∷ pos 1241 ∷ pos 1042 ∷ neg_ℤ (pos 52) ∷ neg_ℤ (pos 164) ∷ []

-- the bed and the friction of two cells, which one value may spoil, and the time step
abbrev pub two_cells : List ℤ → ℤ → ℕ → ℕ → Lent
two_cells now z f dt = lend now 8 (pos 0 ∷ z ∷ pos 0 ∷ []) (0 ∷ f ∷ []) 4096 dt 64 4 (end 0 0) (end 0 0)

-- ---- a lake of three cells of 1 m: water to 1 m over a bed that rises by half a metre a cell, and a dry cell above the shore
abbrev pub rising : List ℤ
rising = pos 0 ∷ pos 2048 ∷ pos 4096 ∷ pos 6144 ∷ []

abbrev pub shore : List ℤ
shore = pos 4096 ∷ pos 4096 ∷ pos 5120 ∷ pos 0 ∷ pos 0 ∷ pos 1024 ∷ pos 0 ∷ pos 0 ∷ pos 0 ∷ pos 0 ∷ pos 0 ∷ pos 0 ∷ []

abbrev pub lake : Lent
lake = lend shore 12 rising (30 ∷ 30 ∷ 30 ∷ []) 4096 435 64 4 (end 0 0) (end 1 0)

-- ---- a cell that is as deep as can be, into which an inflow brings two units more
abbrev pub brimming : Lent
brimming = lend (pos 262144 ∷ pos 0 ∷ pos 0 ∷ pos 0 ∷ []) 4 (pos 0 ∷ pos 0 ∷ []) (0 ∷ []) 4096 1 64 4 (end 2 8192) (end 0 0)

-- ---- the sums of seventeen cells on a flat bed, each of them a unit deeper than the one before: a whole block, and one of a single cell
abbrev pub flat : List ℤ
flat = row 18 (λ i. pos 0)

abbrev pub seventeen : List ℤ
seventeen = table_of 17 (λ i. record { e0 = pos (suc i); e1 = pos 0; q0 = pos 0; q1 = pos 0 })

abbrev pub two_sums : List ℤ
two_sums = pos 136 ∷ pos 17 ∷ []

-- what a question tells: the water, the cells and the blocks
abbrev pub tells : ℤ → ℕ → ℕ → Question
tells w c b = answered (record { water = w; cells = c; blocks = b })
