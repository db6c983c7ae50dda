-- Calls that bring no water in.
use Rattle.std.specs.Prelude.{◌≡◌}
use Rattle.rules.specs.Reach.{Call}

-- a call that brings no water in
pub record NoInflow (c : Call) : Type 0 where
  pub left : c.left.q ≡ 0
  pub right : c.right.q ≡ 0
