-- To be believed.
-- The scope document's number of each refusal; the number of an answer, 0 where nothing is refused; and a refusal at the place that a
-- search found.
use Rattle.std.specs.Prelude.{ℕ, Option, None, Some, Result, Ok, Err}
use Rattle.reach.specs.declared.answer.Refused.{Refused}
use Rattle.reach.specs.declared.answer.Refusal.{Refusal}
use Rattle.reach.specs.declared.answer.Refusal.TheVariants as refusal

abbrev pub number_of : Refusal → ℕ
number_of refusal.Lengths = 1
number_of refusal.Numbers = 2
number_of refusal.Bed = 3
number_of refusal.Friction = 4
number_of refusal.State = 5
number_of refusal.Speed = 6
number_of refusal.TimeStep = 7
number_of refusal.Stage = 8
number_of refusal.Faces = 10

abbrev pub told_number : {A : Type 0} → Result A Refusal → ℕ
told_number (Ok x) = 0
told_number (Err k) = number_of k

abbrev pub refused_at : Refusal → Option ℕ → Result (Unit {0}) Refused
refused_at k (Some i) = Err (record { refusal = k; place = i })
refused_at k None = Ok tt

abbrev pub whole : Refusal → Refused
whole k = record { refusal = k; place = 0 }
