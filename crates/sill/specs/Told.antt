-- To be believed. What the code is told, as the rules' records.
use Rattle.std.specs.Prelude.{List, ℕ, zero, suc, get_or, ℤ, pos}
use Rattle.rules.specs.Face.{face}
use Rattle.sill_rules.specs.Reach as rules
use Rattle.sill_rules.specs.Lent.{Lent}
use Rattle.sill.specs.declared.Given.{Given}
use Rattle.sill.specs.declared.rows.End.{End}
use Rattle.sill.specs.declared.rows.End.TheVariants.{Wall, Open}
use Rattle.sill.specs.declared.rows.Call.{Call}

-- ---- the kind of an end, and the end of a kind; of one that is neither nothing is said
abbrev pub kind_of : End → ℕ
kind_of Wall = 0
kind_of Open = 1

abbrev pub end_by : ℕ → End
end_by zero = Wall
end_by (suc k) = Open

-- ---- the reach, with the lent bed; and the call, with the friction ρ of each cell
abbrev pub reach_in : Call → List ℤ → rules.Reach
reach_in c bed = record { n = c.n; dx = c.dx; bed = λ i. get_or bed i (pos 0); face = face }

abbrev pub call_in : Call → (ℕ → ℤ) → rules.Call
call_in c ρ = record { dt = c.dt; dry = c.dry; rough = ρ; left = kind_of c.left; right = kind_of c.right }

-- the same of the numbers as a caller gave them, whatever they are; and those numbers as the code has them
abbrev pub reach_given : ℕ → Given → List ℤ → rules.Reach
reach_given n g bed = record { n = n; dx = pos g.dx; bed = λ i. get_or bed i (pos 0); face = face }

abbrev pub call_given : Given → (ℕ → ℤ) → rules.Call
call_given g ρ = record { dt = pos g.dt; dry = pos g.dry; rough = ρ; left = g.left; right = g.right }

abbrev pub call_by : ℕ → Given → Call
call_by n g = record { n = n; dx = pos g.dx; dt = pos g.dt; dry = pos g.dry; left = end_by g.left; right = end_by g.right }

-- what is lent and given
abbrev pub lent_by : List ℤ → ℕ → List ℤ → List ℕ → Given → Lent
lent_by state room bed friction g = record {
  now = state;
  room = room;
  bed = bed;
  friction = friction;
  dx = g.dx;
  dt = g.dt;
  dry = g.dry;
  left = g.left;
  right = g.right;
}
