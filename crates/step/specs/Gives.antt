-- To be believed. What is lent to the call and given; and what it says, as every step does: one answer, and one content of the lent table.
use Rattle.std.specs.Prelude.{List, ℕ, ℤ}
use Rattle.rules.specs.Ends.{End}
use Rattle.rules.specs.Lent.{Lent}
pub use Rattle.reach.specs.Gives.{Answer, Volumes, absent, both, Gives, one_answer, one_table, gives_refused}
unfoldable pub use Rattle.reach.specs.Gives.{code, placed, volumes, answer, number_in, leaves}

-- an end, by its kind and its Q; and what is lent and given
abbrev pub end : ℕ → ℕ → End
end kind q = record { kind = kind; q = q }

abbrev pub lend : List ℤ → ℕ → List ℤ → List ℕ → ℕ → ℕ → ℕ → ℕ → End → End → Lent
lend state room bed friction dx dt jump dry left right = record {
  now = state;
  room = room;
  bed = bed;
  friction = friction;
  dx = dx;
  dt = dt;
  jump = jump;
  dry = dry;
  left = left;
  right = right;
}
