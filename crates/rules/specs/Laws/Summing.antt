-- Places in a row that have a property.
use Rattle.std.specs.Prelude.{◌≡◌, Bool}
use Prim.Native.Nat.{ℕ, ◌≤◌, ◌<◌}

-- ---- of the places that have p
module _ (p : ℕ → Bool) where
  abbrev pub Has : Bool → ℕ → ℕ → Type 0
  Has r a b = (i : ℕ) → a ≤ i → i < b → p i ≡ r
