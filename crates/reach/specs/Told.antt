-- To be believed. What the code is told, as the rules' records.
use Rattle.std.specs.Prelude.{List, ℕ, get_or, ℤ, pos, Result, Ok, Err}
use Rattle.rules.specs.Face.{face}
use Rattle.rules.specs.Ends as rules-ends
use Rattle.rules.specs.Found.{Found, at, none}
use Rattle.rules.specs.Reach as rules
use Rattle.reach.specs.declared.Reach.{Reach}
use Rattle.reach.specs.declared.End.{End}
use Rattle.reach.specs.declared.Call.{Call}
use Rattle.reach.specs.declared.bed.Bed.{Bed}
use Rattle.reach.specs.declared.answer.Refused.{Refused}
use Rattle.reach.specs.Refusals.{number_of}

-- the reach, with the lent bed
abbrev pub reach_in : Reach → List ℤ → rules.Reach
reach_in r bed = record { n = r.n; dx = r.dx; bed = λ i. get_or bed i (pos 0); face = face }

-- an end; and the call, with the friction ρ of each cell
abbrev pub end_in : End → rules-ends.End
end_in e = record { kind = e.kind; q = e.q }

abbrev pub call_on : Call → (ℕ → ℤ) → rules.Call
call_on c ρ = record { dt = c.dt; jump = c.jump; dry = c.dry; rough = ρ; left = end_in c.left; right = end_in c.right }

-- the bed of a cell
abbrev pub bed_in : Bed → rules.Bed
bed_in b = record { zl = b.zl; zr = b.zr }

-- the number and the place that a row of checks found, or none
abbrev pub found_in : {A : Type 0} → Result A Refused → Found
found_in (Ok x) = none
found_in (Err e) = at (number_of e.refusal) e.place
