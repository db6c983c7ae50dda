-- One of the four numbers of every cell of a working table.
use Rattle.std.specs.Prelude.{List, [], ℕ, get_or, ℤ, pos}

-- number m of cell i: 0 is the level mean, 2 the discharge mean
abbrev pub number_of : List (List ℤ) → ℕ → ℕ → ℤ
number_of u m i = get_or (get_or u i []) m (pos 0)
