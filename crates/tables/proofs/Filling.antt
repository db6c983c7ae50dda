-- A loop that fills a table and stops at the lowest place with a property:
-- what it has done so far, and that it says so where it stops and where it ends.
-- Assumes nothing.
use Rattle.std.specs.Prelude.{◌≡◌, refl, Bool, true, false, List, ℕ, ◌+◌, ◌≤◌, ◌<◌, length, set}
use Rattle.std.proofs.Common.{◌∙◌, not-suc-le-zero, arith, below_more, length-set}
use Rattle.tables.proofs.Some.{none_some, is_lowest, lowest_none}
use Rattle.tables.specs.Rows.{Written, written_none, written_more}
use Rattle.tables.specs.Filling.{FillSays}

-- n places of a table that was old are filled with f's values, each before it is tried, until one has p; what stands past the end of a
-- table is d
module _ {A : Type 0} (d : A) (n : ℕ) (p : ℕ → Bool) (f : ℕ → A) where
  -- so it is filled where none has
  pub all_filled : {r : ℕ} {a : List A} → FillSays d n p f r a → n ≤ r → Written d a n f
  all_filled says m k l = says.up_to k l (omega arith)

  module _ (old : List A) where
    pub record Filling (a : List A) (i : ℕ) : Type 0 where
      pub most : i ≤ n
      pub room : length a ≡ length old
      pub none : (k : ℕ) → k < i → p k ≡ false
      pub done : Written d a i f

    pub fill_none : Filling old 0
    fill_none = record { most = omega arith; room = refl; none = λ k h. absurd (not-suc-le-zero h); done = written_none d old f }

    -- place i is filled
    module _ (a : List A) (i : ℕ) (x : A) (m : n ≤ length old) (l : i < n) (h : Filling a i) (new : x ≡ f i) where
      filled : Written d (set a i x) (i + 1) f
      filled = written_more d a i f x (omega (arith, h.room)) h.done new

      pub fill_more : p i ≡ false → Filling (set a i x) (i + 1)
      fill_more e = record {
        most = omega arith;
        room = length-set a i x ∙ h.room;
        none = below_more (λ k. p k ≡ false) i h.none e;
        done = filled;
      }

      pub fill_stops : p i ≡ true → FillSays d n p f i (set a i x)
      fill_stops e = record {
        stops = is_lowest p n i (record { below = l; has = e; under = h.none });
        up_to = λ k b c. filled k (omega arith);
      }

    pub fill_ends : (a : List A) (i : ℕ) → n ≤ i → Filling a i → FillSays d n p f n a
    fill_ends a i l h = record {
      stops = lowest_none p n (none_some p n (λ k m. h.none k (omega arith)));
      up_to = λ k m c. h.done k (omega arith);
    }
