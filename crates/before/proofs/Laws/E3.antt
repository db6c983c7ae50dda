-- Given the dry depth 4, and no inflow, a call is answered before E7 as it was before E3, when it gave neither.
-- Assumes nothing.
use Rattle.std.specs.Prelude.{◌≡◌}
use Rattle.std.proofs.Math.Path.{refl}
use Rattle.std.proofs.Common.{◌∙◌}
use Rattle.rules.specs.Refusals.{any}
use Rattle.rules.specs.Reach.{Reach, Call}
use Rattle.rules.specs.Lent.{reach_of, call_of}
use Rattle.before.specs.E7 as E7
use Rattle.before.specs.E4 as E4
use Rattle.before.specs.E4.{with_no_inflow}
use Rattle.before.specs.E3.{Lent, given, bad_call, step_of}
use Rattle.before.proofs.Laws.Parts.{as_before}
use Rattle.before.proofs.Laws.E4.{bad_kinds, as_in_force}

module _ (a : Lent) (f : a.left ≡ 2 → ⊥) (g : a.right ≡ 2 → ⊥) where
  abbrev r : Reach
  r = reach_of (with_no_inflow (given 4 a))

  abbrev c : Call
  c = call_of (with_no_inflow (given 4 a))

  -- 4 is in its list, so check 2 finds nothing more
  four_listed : bad_call r c ≡ E4.bad_call r c
  unfolding bad_call E4.bad_call any
  four_listed = refl

  -- the same number, or the same table and volumes
  pub given_four : E7.step_of (with_no_inflow (given 4 a)) ≡ step_of a
  given_four = let b = given 4 a in
      as_before bad_call E4.parts (with_no_inflow b) (four_listed ∙ bad_kinds b f g) (as_in_force b f g)
