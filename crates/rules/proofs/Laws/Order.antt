-- Where each check stands in the order of its list, from 0 on.
use Rattle.std.specs.Prelude.{ℕ}

-- in `early`: the numbers of the call, the bed, the state, the friction speeds, and stage one's face speeds and faces
abbrev pub call : ℕ
call = 0

abbrev pub beds : ℕ
beds = 1

abbrev pub state : ℕ
state = 3

abbrev pub friction : ℕ
friction = 4

abbrev pub speeds_one : ℕ
speeds_one = 5

abbrev pub faces_one : ℕ
faces_one = 7

-- in a stage's: its faces
abbrev pub faces : ℕ
faces = 2

-- in `late`: the finished stage one, stage two's face speeds and faces, and the end state
abbrev pub stage_one_lem : ℕ
stage_one_lem = 0

abbrev pub speeds_two : ℕ
speeds_two = 1

abbrev pub faces_two : ℕ
faces_two = 3

abbrev pub end : ℕ
end = 4
