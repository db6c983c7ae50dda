-- To be believed. Finishing before E2: a marked cell was limited whatever stood next to it. All else is as in the rules in force.
use Rattle.rules.specs.Reach.{Reach, Call, State, under}
use Rattle.rules.specs.Finishing.{marked, limited_if, cut, dried}

unfoldable pub limit : Reach → Call → State → State
limit r c s i = limited_if (marked r c s i) r s i

unfoldable pub finish : Reach → Call → State → State
finish r c s i = dried c.dry (under r i) (cut (under r i) (limit r c s i))
