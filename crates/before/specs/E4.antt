-- To be believed. The step before E4: an end had a kind alone, 0 a wall or 1 open. So what crossed it was what crosses between its side
-- and an outer one,
-- no speed but those of the sides was tried there, and check 2 knew of two kinds and of no Q. All else is as before E6.
use Rattle.std.specs.Prelude.{Bool, false, List, [], ◌∷◌, ℕ, ltb, ℤ, pos}
use Rattle.rules.specs.Limits.{longest_cell, longest_step, largest_jump}
use Rattle.rules.specs.Face.{Side, Flux}
use Rattle.rules.specs.Ends.{End, outer}
use Rattle.rules.specs.Reach.{Reach, Call}
use Rattle.rules.specs.Refusals.{any, outside, bad_dry}
use Rattle.rules.specs.Lent as lent
use Rattle.before.specs.E13.{Outcome}
use Rattle.before.specs.Parts.{Parts, step_by}
use Rattle.before.specs.E6 as E6

-- what crossed the two ends
unfoldable pub left_end : (Side → Side → Flux) → ℤ → End → Side → Flux
left_end face d e x = face (outer e.kind x) x

unfoldable pub right_end : (Side → Side → Flux) → ℤ → End → Side → Flux
right_end face d e x = face x (outer e.kind x)

-- 2: dx, dt, J, the dry depth or an end kind is outside its list
unfoldable pub bad_call : Reach → Call → Bool
bad_call r c = any (
    outside (pos 1) longest_cell r.dx
    ∷ outside (pos 1) longest_step c.dt
    ∷ outside (pos 0) largest_jump c.jump
    ∷ bad_dry c.dry
    ∷ ltb 1 c.left.kind
    ∷ ltb 1 c.right.kind
    ∷ []
    )

abbrev pub parts : Parts
parts = record {
  side_l = E6.side_l;
  side_r = E6.side_r;
  left_end = left_end;
  right_end = right_end;
  fast_inflow = λ d e x. false;
  update = E6.update;
}

-- what was lent and given
pub record Lent : Type 0 where
  pub now : List ℤ
  pub room : ℕ
  pub bed : List ℤ
  pub friction : List ℕ
  pub dx : ℕ
  pub dt : ℕ
  pub jump : ℕ
  pub dry : ℕ
  pub left : ℕ
  pub right : ℕ

-- as a call in force, with no inflow
abbrev pub with_no_inflow : Lent → lent.Lent
with_no_inflow a = record {
  now = a.now;
  room = a.room;
  bed = a.bed;
  friction = a.friction;
  dx = a.dx;
  dt = a.dt;
  jump = a.jump;
  dry = a.dry;
  left = record { kind = a.left; q = 0 };
  right = record { kind = a.right; q = 0 };
}

abbrev pub step_of : Lent → Outcome
step_of a = step_by bad_call parts (with_no_inflow a)
