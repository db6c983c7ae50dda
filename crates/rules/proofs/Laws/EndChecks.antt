-- What the checks leave of an end: by check 2 a kind from 0 to 2, and Q within its list, nought at an end of another kind; by the check of
-- the face speeds an inflow that is not too fast.
-- Assumes nothing.
use Rattle.std.specs.Prelude.{◌≡◌, false, ℕ, suc, ◌-◌, ◌≤◌, ◌<◌, eqb}
use Rattle.std.proofs.Common.{sym, ◌∙◌, arith, ltb-false, ne_eqb, eqb→eq}
use Rattle.whole.specs.Flags.{held, not_f, or_l, or_r}
use Rattle.tables.specs.Some.{some}
use Rattle.tables.proofs.Some.{some_none}
use Rattle.rules.specs.Limits.{largest_inflow}
use Rattle.rules.specs.Ends.{End, inflow_kind}
use Rattle.rules.specs.Reach.{Reach, Call, State}
use Rattle.rules.specs.Stage.{at_left, at_right}
use Rattle.rules.specs.Refusals.{end_tests, bad_end, fast_inflow, fast_face}
use Rattle.rules.proofs.Laws.Accept.{flag_at, none_at}
use Rattle.rules.proofs.Laws.FastFaces.{left_fast, right_fast, inflow_left, inflow_right, last_face}

-- ---- check 2
module _ (e : End) (ok : bad_end e ≡ false) where
  fails : (i : ℕ) → flag_at (end_tests e) i ≡ false
  unfolding bad_end
  fails = none_at (end_tests e) ok

  pub kind_in : e.kind ≤ inflow_kind
  kind_in = ltb-false inflow_kind e.kind (fails 0)

  pub inflow_in : e.q ≤ largest_inflow
  inflow_in = ltb-false largest_inflow e.q (fails 1)

  pub inflow_only : (e.kind ≡ inflow_kind → ⊥) → e.q ≡ 0
  inflow_only d = eqb→eq e.q 0 (held (eqb e.q 0) (not_f (eqb e.q 0) (rw (ne_eqb e.kind inflow_kind d) at (fails 2))))

-- ---- the face speeds
pub record SlowInflows (r : Reach) (c : Call) (s : State) : Type 0 where
  pub left : fast_inflow c.dry c.left (at_left r c s 0) ≡ false
  pub right : fast_inflow c.dry c.right (at_right r c s (r.n - 1)) ≡ false

pub slow_inflows : (r : Reach) (c : Call) (s : State) → 0 < r.n → some (fast_face r c s) (suc r.n) ≡ false → SlowInflows r c s
unfolding fast_face
slow_inflows r c s o ok = let fails = some_none (fast_face r c s) (suc r.n) ok in record {
  left = or_l (inflow_left r c s) (left_fast r c s 0) (fails 0 (omega arith));
  right = or_r (right_fast r c s (r.n - 1)) (inflow_right r c s) (sym (last_face r c s o) ∙ fails r.n (omega arith));
}
