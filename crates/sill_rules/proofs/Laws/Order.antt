-- Where each check stands in the order of `checks`, from 0 on; up to the faces it stands there in `early` too.
use Rattle.std.specs.Prelude.{ℕ}

-- the numbers of the call, the bed, friction's values and the state
abbrev pub call : ℕ
call = 0

abbrev pub beds : ℕ
beds = 1

abbrev pub rough : ℕ
rough = 2

abbrev pub state : ℕ
state = 3

-- the friction speeds, the face speeds and the faces
abbrev pub friction : ℕ
friction = 4

abbrev pub speeds : ℕ
speeds = 5

abbrev pub faces : ℕ
faces = 6

-- the end state
abbrev pub end : ℕ
end = 7
