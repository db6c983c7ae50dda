-- A loop that fills a table and stops at the lowest place with a property: what it says where it stops and where it ends.
use Rattle.std.specs.Prelude.{◌≡◌, Bool, List, ℕ, ◌≤◌, ◌<◌, get_or}
use Rattle.tables.specs.Some.{lowest}

-- n places of a table that was old are filled with f's values, each before it is tried, until one has p; what stands past the end of a
-- table is d
module _ {A : Type 0} (d : A) (n : ℕ) (p : ℕ → Bool) (f : ℕ → A) where
  -- the answer is the lowest that has it, or n, and the table is filled up to there
  pub record FillSays (r : ℕ) (a : List A) : Type 0 where
    pub stops : r ≡ lowest p n
    pub up_to : (k : ℕ) → k < n → k ≤ r → get_or a k d ≡ f k
