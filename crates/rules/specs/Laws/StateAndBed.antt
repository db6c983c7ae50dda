-- The lengths of a state that passed the checks that need no call.
use Rattle.std.specs.Prelude.{◌≡◌, ℕ, ◌*◌, ◌≤◌, ◌<◌}

-- ---- lengths
pub record StateFits (size n : ℕ) : Type 0 where
  pub some : 0 < n
  pub most : n ≤ 1024
  pub state : size ≡ 4 * n
