-- Cells of a working table that stand in it and are small enough to be worked on.
use Rattle.std.specs.Prelude.{List, ℕ, suc, ◌≤◌, ◌<◌, length, ℤ}
use Rattle.tables.specs.Cells.{seen}
use Rattle.reach.specs.Ranges.{Grounds, Wide, Wides}

-- cell i is one of the n of the table u
pub record InTable (n : ℕ) (u : List (List ℤ)) (i : ℕ) : Type 0 where
  pub below : i < n
  pub room : n ≤ length u
  pub wide : Wides n (seen u)

-- the same, over a bed that is small enough too
pub record InReach (n : ℕ) (bed : List ℤ) (u : List (List ℤ)) (i : ℕ) : Type 0 where
  pub row : InTable n u i
  pub grounds : Grounds bed n

-- cell i and the next, which share an inner face
pub record Neighbours (u : List (List ℤ)) (i : ℕ) : Type 0 where
  pub room : suc i < length u
  pub left : Wide (seen u i)
  pub right : Wide (seen u (suc i))
