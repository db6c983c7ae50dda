-- To be believed. The two ends of a reach, and what crosses each: beside a wall or an open end as between two sides; at an inflow what is
-- given.
-- Q and uQ are the letters of E4, F, K, A and S those of the scope document.
use Rattle.std.specs.Prelude.{Bool, cond, ℕ, eqb, ℤ, pos, neg_ℤ, ◌+ℤ◌, ◌*ℤ◌}
use Rattle.std.specs.Int.Signed.{quot_z}
use Rattle.whole.specs.Choice.{max_z, size_z}
use Rattle.rules.specs.Face.{Side, Flux, speed, wave}

-- its kind, 0 a wall, 1 open, 2 an inflow; and the discharge Q that is brought into the reach there
pub record End : Type 0 where
  pub kind : ℕ
  pub q : ℕ

abbrev pub open_kind : ℕ
open_kind = 1

abbrev pub inflow_kind : ℕ
inflow_kind = 2

abbrev pub is_inflow : End → Bool
is_inflow e = eqb e.kind inflow_kind

-- the outer side of a wall or an open end is as deep as the inner one; its speed is the opposite one at a wall, the same one at an open end
unfoldable pub outer : ℕ → Side → Side
outer kind x = record { h = x.h; u = cond (eqb kind 0) (neg_ℤ x.u) x.u }

-- uQ: the speed of Q at the depth of the inner side, at the dry depth d
unfoldable pub inflow_speed : ℤ → End → Side → ℤ
inflow_speed d e x = speed d (pos e.q) x.h

-- an inflow has no outer side: the mass f is given, as Q turned into the reach's direction; the rest is of Q and the inner side alone
unfoldable pub inflow : ℤ → End → ℤ → Side → Flux
inflow d e f x = record {
  F = f;
  K = x.h *ℤ x.h;
  A = quot_z (pos e.q *ℤ inflow_speed d e x) (pos 4096);
  S = max_z (inflow_speed d e x) (size_z x.u +ℤ wave x.h);
}

-- what crosses the left and the right end beside the side that stands there
unfoldable pub left_end : (Side → Side → Flux) → ℤ → End → Side → Flux
left_end face d e x = cond (is_inflow e) (inflow d e (pos e.q) x) (face (outer e.kind x) x)

unfoldable pub right_end : (Side → Side → Flux) → ℤ → End → Side → Flux
right_end face d e x = cond (is_inflow e) (inflow d e (neg_ℤ (pos e.q)) x) (face x (outer e.kind x))
