-- To be believed. The step before E3: no call gave a dry depth, and it was 4 in every one; check 2 knew of none. All else is as before E4.
use Rattle.std.specs.Prelude.{Bool, List, [], ◌∷◌, ℕ, ltb, ℤ, pos}
use Rattle.rules.specs.Limits.{longest_cell, longest_step, largest_jump}
use Rattle.rules.specs.Reach.{Reach, Call}
use Rattle.rules.specs.Refusals.{any, outside}
use Rattle.before.specs.E13.{Outcome}
use Rattle.before.specs.Parts.{step_by}
use Rattle.before.specs.E4 as E4

abbrev pub dry_depth : ℕ
dry_depth = 4

-- 2: dx, dt, J or an end kind is outside its list
unfoldable pub bad_call : Reach → Call → Bool
bad_call r c = any (
    outside (pos 1) longest_cell r.dx
    ∷ outside (pos 1) longest_step c.dt
    ∷ outside (pos 0) largest_jump c.jump
    ∷ ltb 1 c.left.kind
    ∷ ltb 1 c.right.kind
    ∷ []
    )

-- what was lent and given
pub record Lent : Type 0 where
  pub now : List ℤ
  pub room : ℕ
  pub bed : List ℤ
  pub friction : List ℕ
  pub dx : ℕ
  pub dt : ℕ
  pub jump : ℕ
  pub left : ℕ
  pub right : ℕ

-- the same, given a dry depth besides
abbrev pub given : ℕ → Lent → E4.Lent
given dry a = record {
  now = a.now;
  room = a.room;
  bed = a.bed;
  friction = a.friction;
  dx = a.dx;
  dt = a.dt;
  jump = a.jump;
  dry = dry;
  left = a.left;
  right = a.right;
}

abbrev pub step_of : Lent → Outcome
step_of a = step_by bad_call E4.parts (E4.with_no_inflow (given dry_depth a))
