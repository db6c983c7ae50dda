-- To be believed. When a table cannot be finished.
use Rattle.std.specs.Prelude.{Bool, not, ◌||◌, List, [], ◌∷◌, ℕ, ◌+◌, eqb, ltb, length, ℤ, pos}
use Rattle.tables.specs.Some.{some}
use Rattle.tables.specs.Cells.{Cell, seen}
use Rattle.rules.specs.Limits.{most_cells, highest_bed, largest_jump}
use Rattle.rules.specs.Reach.{Bed, bed_at}
use Rattle.rules.specs.Refusals.{any, outside, past, bad_dry}
use Rattle.reach.specs.declared.Reach.{Reach}
use Rattle.reach.specs.declared.Call.{Call}
use Rattle.reach.specs.Ranges.{widest}

-- one of two numbers is past a limit, either way
unfoldable pub either_past : ℤ → ℤ → ℤ → Bool
either_past most x y = past most x || past most y

-- the bed at a face of the cell, or a number of its level or its discharge, is too large to be worked on
unfoldable pub too_large : Bed → Cell → Bool
too_large b x =
    any (either_past highest_bed b.zl b.zr ∷ either_past widest x.e0 x.e1 ∷ either_past widest x.q0 x.q1 ∷ [])

-- what hinders finishing: u, or the table with that much room, has fewer than n cells; there are too many; they do not fit their bed;
-- the jump or the dry depth is outside its list; or a number is too large
abbrev pub hindrances : Reach → Call → List ℤ → List (List ℤ) → ℕ → List Bool
hindrances r c bed u room =
    ltb (length u) r.n
    ∷ ltb room r.n
    ∷ ltb most_cells r.n
    ∷ not (eqb (length bed) (r.n + 1))
    ∷ outside (pos 0) largest_jump c.jump
    ∷ bad_dry c.dry
    ∷ some (λ i. too_large (bed_at bed i) (seen u i)) r.n
    ∷ []

unfoldable pub unfit : Reach → Call → List ℤ → List (List ℤ) → ℕ → Bool
unfit r c bed u room = any (hindrances r c bed u room)
