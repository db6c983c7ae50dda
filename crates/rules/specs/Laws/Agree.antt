-- States that agree in the reach.
use Rattle.std.specs.Prelude.{◌≡◌}
use Prim.Native.Nat.{ℕ, ◌<◌}
use Rattle.rules.specs.Reach.{Reach, State}

abbrev pub Same : Reach → State → State → Type 0
Same r s t = (i : ℕ) → i < r.n → s i ≡ t i
