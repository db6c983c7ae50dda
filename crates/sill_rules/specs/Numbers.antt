-- To be believed: what the statement here speaks of.
-- Small calls over stepped beds, under one statement that the checker computes; another program gives the same numbers.
use Rattle.std.specs.Prelude.{◌≡◌, refl, [], ◌∷◌, ℕ, pos, neg_ℤ}
use Rattle.whole.specs.Choice.{min_z, max_z, size_z}
use Rattle.whole.specs.Largest.{bits, largest}
use Rattle.tables.specs.Some.{some, lowest}
use Rattle.tables.specs.Rows.{row}
use Rattle.tables.specs.Columns.{columns}
use Rattle.tables.specs.Pools.{pool_table}
use Rattle.rules.specs.Face.{speed, wave, wave_of, u_star, a_star, left_wave, right_wave, mass}
use Rattle.rules.specs.Face.{mixture, mixed, top, alone, between, sided, nothing, wet, face}
use Rattle.rules.specs.Ends.{outer}
use Rattle.rules.specs.Friction.{cube_of, cube, drag, slowed}
use Rattle.rules.specs.Shown.{cross_right, cross_at, volume}
use Rattle.rules.specs.Refusals.{any, bad_rough, verdict, spot}
use Rattle.rules.specs.Lent.{outcome, refused, accepted}
use Rattle.sill_rules.specs.Reach.{depth, pace, higher, crest_left, crest_right, over}
use Rattle.sill_rules.specs.Step.{rubbed_pool, rubbed, push, update, stage, dried_pool, dried, next, carry}
use Rattle.sill_rules.specs.Refusals.{bad_call, bad_bed, off_pool, off, fast_pool, fast_friction, fast_face, too_long, early, checks}
use Rattle.sill_rules.specs.Lent.{Lent, misfit, all_checks, filled, crossed, step_of}

-- three cells in motion over a sill, between a wall and an open end
abbrev pub sill : Lent
sill = record {
  now = pos 9001 ∷ pos 8600 ∷ pos 8200 ∷ pos 2000 ∷ neg_ℤ (pos 500) ∷ pos 3000 ∷ [];
  room = 6;
  bed = pos 4097 ∷ pos 8193 ∷ pos 5001 ∷ [];
  friction = 30 ∷ 0 ∷ 25 ∷ [];
  dx = 20480;
  dt = 800;
  dry = 4;
  left = 0;
  right = 1;
}

-- water over a dry cell below it, between walls, on either side of the longest time step
abbrev pub fall : ℕ → Lent
fall dt = record {
  now = pos 4099 ∷ pos 0 ∷ pos 0 ∷ pos 0 ∷ [];
  room = 4;
  bed = pos 3 ∷ pos 0 ∷ [];
  friction = 0 ∷ 0 ∷ [];
  dx = 4096;
  dt = dt;
  dry = 4;
  left = 0;
  right = 0;
}

-- thin water whose depth falls from 6 to the dry depth
abbrev pub drying : Lent
drying = record {
  now = pos 4103 ∷ pos 4101 ∷ pos 30 ∷ pos 0 ∷ [];
  room = 4;
  bed = pos 4097 ∷ pos 4093 ∷ [];
  friction = 0 ∷ 0 ∷ [];
  dx = 4096;
  dt = 400;
  dry = 4;
  left = 0;
  right = 1;
}

-- a lake over an odd sill, a dry island, and a lower lake behind it
abbrev pub lakes : Lent
lakes = record {
  now = pos 8700 ∷ pos 8700 ∷ pos 8999 ∷ pos 5000 ∷ pos 0 ∷ pos 0 ∷ pos 0 ∷ pos 0 ∷ [];
  room = 8;
  bed = pos 4097 ∷ pos 8193 ∷ pos 8999 ∷ pos 1001 ∷ [];
  friction = 30 ∷ 0 ∷ 25 ∷ 200 ∷ [];
  dx = 4096;
  dt = 327;
  dry = 4;
  left = 0;
  right = 1;
}

pub numbers_over_steps :
    step_of sill ∷ step_of (fall 326) ∷ step_of (fall 327) ∷ step_of drying ∷ step_of lakes ∷ []
    ≡ accepted (pos 8992 ∷ pos 8604 ∷ pos 8089 ∷ pos 1702 ∷ neg_ℤ (pos 438) ∷ pos 2882 ∷ []) (pos 0) (pos 116)
    ∷ accepted (pos 3419 ∷ pos 680 ∷ pos 533 ∷ pos 1066 ∷ []) (pos 0) (pos 0)
    ∷ refused 7 1
    ∷ accepted (pos 4101 ∷ pos 4103 ∷ pos 0 ∷ pos 14 ∷ []) (pos 0) (pos 0)
    ∷ accepted lakes.now (pos 0) (pos 0)
    ∷ []
unfolding step_of outcome all_checks filled crossed misfit any checks early verdict spot some lowest
    bad_call bad_bed bad_rough off off_pool fast_friction fast_pool fast_face too_long pool_table columns row
    depth pace higher crest_left crest_right over rubbed_pool rubbed push update stage dried_pool dried next carry
    outer cross_right cross_at volume
    wave wave_of largest bits cube cube_of speed face wet nothing sided alone between top left_wave right_wave
    u_star a_star mass mixed mixture min_z max_z size_z drag slowed
numbers_over_steps = refl
