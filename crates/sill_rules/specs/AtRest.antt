-- A lake at rest over a stepped bed.
use Rattle.std.specs.Prelude.{◌≡◌, ℕ, suc, ◌<◌, pos}
use Rattle.sill_rules.specs.Reach.{Reach, State, hl, hr}

-- no discharge anywhere; the reconstructed depths at each inner face are equal
pub record AtRest (r : Reach) (s : State) : Type 0 where
  pub calm : (i : ℕ) → i < r.n → (s i).q ≡ pos 0
  pub meet : (i : ℕ) → suc i < r.n → hr r s i ≡ hl r s (suc i)
