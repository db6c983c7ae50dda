-- To be believed. What a call over a stepped bed gives back: each refusal over the whole reach, in the scope document's order with one
-- stage.
use Rattle.std.specs.Prelude.{Bool, not, ◌&&◌, ◌||◌, List, [], ◌∷◌, ◌++◌, ℕ, zero, suc, eqb, ltb, ℤ, pos}
use Rattle.tables.specs.Pools.{Pool}
use Rattle.rules.specs.Limits.{highest_bed, longest_cell, longest_step, deepest, fullest, fastest}
use Rattle.rules.specs.Ends.{open_kind}
use Rattle.rules.specs.Refusals.{any, outside, past, bad_dry, bad_rough, fast_side, is_long, Check, each, of_call, verdict}
use Rattle.sill_rules.specs.Reach.{Reach, Call, State, depth, pace, at_left, at_right}
use Rattle.sill_rules.specs.Step.{face_at, rubbed, next}

-- 2: dx, dt, the dry depth or an end's kind is outside its list
abbrev pub call_tests : Reach → Call → List Bool
call_tests r c =
    outside (pos 1) longest_cell r.dx
    ∷ outside (pos 1) longest_step c.dt
    ∷ bad_dry c.dry
    ∷ ltb open_kind c.left
    ∷ ltb open_kind c.right
    ∷ []

unfoldable pub bad_call : Reach → Call → Bool
bad_call r c = any (call_tests r c)

-- 3: a bed value is out of range; it may be odd
unfoldable pub bad_bed : ℤ → Bool
bad_bed z = outside (pos 0) highest_bed z

-- 5 and 8: a cell is not in range
abbrev pub pool_tests : ℤ → Pool → List Bool
pool_tests z x = outside (pos 0) deepest (depth z x) ∷ past fullest x.q ∷ []

unfoldable pub off_pool : ℤ → Pool → Bool
off_pool z x = any (pool_tests z x)

unfoldable pub off : Reach → State → ℕ → Bool
off r s i = off_pool (r.bed i) (s i)

-- 6: a speed goes beyond 131,072 either way: of friction,
unfoldable pub fast_pool : ℤ → ℤ → Pool → Bool
fast_pool d z x = past fastest (pace d z x)

unfoldable pub fast_friction : Reach → Call → State → ℕ → Bool
fast_friction r c s i = fast_pool c.dry (r.bed i) (s i)

-- or of the cells left and right of face i (`slow_faces` of Laws.Speeds: after the first none is left for this one)
unfoldable pub fast_face : Reach → Call → State → ℕ → Bool
fast_face r c s zero = fast_side (at_left r c s zero)
fast_face r c s (suc i) = fast_side (at_right r c s i) || (not (eqb (suc i) r.n) && fast_side (at_left r c s (suc i)))

-- 7: the step is too long for the top speed of a face
unfoldable pub too_long : Reach → Call → State → ℕ → Bool
too_long r c s i = is_long r.dx c.dt (face_at r c s i)

-- ---- the order: 2 to 5, the friction speeds, the face speeds and the faces
unfoldable pub early : Reach → Call → State → List Check
early r c s =
    of_call 2 (bad_call r c)
    ∷ each 3 r.n (λ i. bad_bed (r.bed i))
    ∷ each 4 r.n (λ i. bad_rough (c.rough i))
    ∷ each 5 r.n (off r s)
    ∷ each 6 r.n (fast_friction r c s)
    ∷ each 6 (suc r.n) (fast_face r c (rubbed r c s))
    ∷ each 7 (suc r.n) (too_long r c (rubbed r c s))
    ∷ []

-- and the end state, which is dried
unfoldable pub checks : Reach → Call → State → List Check
checks r c s = early r c s ++ each 8 r.n (off r (next r c s)) ∷ []

-- the number of the refusal, or 0 where the step is accepted (1, of the tables' lengths, stands in `Lent`)
unfoldable pub refusal : Reach → Call → State → ℕ
refusal r c s = verdict (checks r c s)
