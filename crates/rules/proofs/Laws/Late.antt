-- The checks after `early`.
use Rattle.std.specs.Prelude.{List, [], ◌∷◌, ◌++◌}
use Rattle.rules.specs.Reach.{Reach, Call, State}
use Rattle.rules.specs.Step.{stage_one, next}
use Rattle.rules.specs.Refusals.{Check, each, off, stage_checks}

abbrev pub late : Reach → Call → State → List Check
late r c s =
    each 8 r.n (off r (stage_one r c s)) ∷ stage_checks r c (stage_one r c s) ++ each 8 r.n (off r (next r c s)) ∷ []
