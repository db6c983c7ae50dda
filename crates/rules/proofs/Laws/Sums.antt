-- The water between two faces: with the sums of the state it is the sum of the mean depths between them, and little is read of either.
-- Assumes nothing.
use Rattle.std.specs.Prelude.{◌≡◌, refl, List, [], ◌∷◌, ◌⊎◌, length, get_or, ℤ, pos}
use Rattle.std.proofs.Math.Path.{sym, ap, ap₂}
use Rattle.std.proofs.Common.{◌∙◌, inl, ⊎_elim, ext_get_or}
use Prim.Native.Nat.{ℕ, zero, suc, ◌+◌, ◌-◌, ◌≤◌, ◌<◌}
use native.Mathlib.Omega.{arith}
use Rattle.std.proofs.Math.IntN.{◌+ℤ◌}
use Rattle.whole.specs.Ring.{v, ◌⊕◌, solve}
use Rattle.tables.specs.Rows.{length_row, get_d_row, Written}
use Rattle.rules.specs.Limits.{most_cells}
use Rattle.rules.specs.StateAndBed.{cells_over, depth_in}
use Rattle.rules.specs.Sums.{blocks_of, block_from, block_to, sum_from, sum_to, block_sum, sums_of, Reading, reading}
use Rattle.rules.proofs.Laws.Summing.{sum_join, sum_none, sum_same}
use Rattle.rules.specs.Laws.Blocks.{Cut}
use Rattle.rules.proofs.Laws.Blocks.{block_end, Cutting, cutting, blocks_read, cells_read, blocks_counted, cells_counted}

-- ---- what is read, by a cut of the cells between the faces
pub cut_reading : (bed t sums : List ℤ) {a b head first last tail : ℕ} → Cut (cells_over bed) a b head first last tail
    → reading bed t sums a b ≡ record {
      water = sum_to (λ m. get_or sums m (pos 0)) first last +ℤ (sum_to (depth_in bed t) a head +ℤ sum_to (depth_in bed t) tail b);
      cells = head - a + (b - tail);
      blocks = last - first;
    }
unfolding reading
cut_reading bed t sums c i = record {
  water = blocks_read c (λ m. get_or sums m (pos 0)) i +ℤ cells_read c (depth_in bed t) i;
  cells = cells_counted c i;
  blocks = blocks_counted c i;
}

-- ---- the edges of the blocks: edge m is where block m begins, and where the one before it ends
abbrev edge : ℕ → ℕ → ℕ
edge n zero = 0
edge n (suc m) = block_to n m

edge_is : (n m : ℕ) → ((block_from m ≤ n) × (edge n m ≡ block_from m)) ⊎ ((n < block_from m) × (edge n m ≡ n))
edge_is n zero = inl (omega arith, refl)
edge_is n (suc m) = block_end n m

edge_grows : (n l m : ℕ) → l ≤ m → edge n l ≤ edge n m
edge_grows n l m h = ⊎_elim
    (λ e. ⊎_elim (λ d. omega (arith, e, d)) (λ d. omega (arith, e, d)) (edge_is n m))
    (λ e. ⊎_elim (λ d. omega (arith, e, d)) (λ d. omega (arith, e, d)) (edge_is n m)) (edge_is n l)

edge_begins : (n m : ℕ) → m < blocks_of n → edge n m ≡ block_from m
edge_begins n m h = ⊎_elim (λ e. e.1) (λ e. let z : ⊥ = omega (arith, e) in absurd z) (edge_is n m)

module _ (bed t : List ℤ) where
  abbrev n : ℕ
  n = cells_over bed

  abbrev depth : ℕ → ℤ
  depth = depth_in bed t

  -- the sums of blocks in a row are the sum of their cells
  from_blocks : (l m : ℕ) → l + m ≤ blocks_of n → sum_from (block_sum bed t) l m ≡ sum_to depth (edge n l) (edge n (l + m))
  unfolding sum_from block_sum
  from_blocks l zero h = let e : l + 0 ≡ l = omega arith in
      sym (ap (λ (x : ℕ). sum_to depth (edge n l) (edge n x)) e ∙ sum_none depth (edge n l))
  from_blocks l (suc m) h =
      let e : l + suc m ≡ suc (l + m) = omega arith in
      ap₂ ◌+ℤ◌ (from_blocks l m (omega arith))
      (ap (λ (x : ℕ). sum_to depth x (block_to n (l + m))) (sym (edge_begins n (l + m) (omega arith))))
      ∙ sym (sum_join depth (edge n l) (edge n (l + m)) (edge n (suc (l + m)))
      (edge_grows n l (l + m) (omega arith)) (edge_grows n (l + m) (suc (l + m)) (omega arith)))
      ∙ ap (λ (x : ℕ). sum_to depth (edge n l) (edge n x)) (sym e)

  -- the sums table shows them
  pub length_sums : length (sums_of bed t) ≡ blocks_of n
  unfolding sums_of
  length_sums = length_row (blocks_of n) (block_sum bed t)

  get_d_sums : (m : ℕ) → m < blocks_of n → get_or (sums_of bed t) m (pos 0) ≡ block_sum bed t m
  unfolding sums_of
  get_d_sums m h = get_d_row (blocks_of n) (block_sum bed t) m (pos 0) h

  -- and a table that shows them is theirs
  pub sums_are : (a : List ℤ) → length a ≡ blocks_of n → Written (pos 0) a (blocks_of n) (block_sum bed t) → a ≡ sums_of bed t
  sums_are a e h = ext_get_or (pos 0) a (sums_of bed t) (e ∙ sym length_sums)
      (λ m l. let k : m < blocks_of n = omega arith in h m k ∙ sym (get_d_sums m k))

  -- so what is read of the blocks of a cut is the water of its middle
  module _ {a b head first last tail : ℕ} (c : Cut n a b head first last tail) where
    middle : sum_to (λ m. get_or (sums_of bed t) m (pos 0)) first last ≡ sum_to depth head tail
    middle =
        sum_same (λ m. get_or (sums_of bed t) m (pos 0)) (block_sum bed t) first last c.order
        (λ m p q. get_d_sums m (omega (arith, c.most)))
        ∙ from_blocks first (last - first) (omega (arith, c.order, c.most))
        ∙ (let e : first + (last - first) ≡ last = omega (arith, c.order) in
        ap (λ (x : ℕ). sum_to depth (edge n first) (edge n x)) e)
        ∙ ⊎_elim
        (λ e. ap₂ (sum_to depth) (edge_begins n first (omega (arith, e, c.most)) ∙ sym e.1) (ends_at last e.0 ∙ sym e.2))
        (λ e. rw (e.0, e.1, e.2) (sum_none depth (edge n last) ∙ sym (sum_none depth b))) c.ends
      where
        ends_at : (m : ℕ) → first < m → edge n m ≡ block_to n (m - 1)
        ends_at zero h = let z : ⊥ = omega arith in absurd z
        ends_at (suc m) h = let e : m ≡ suc m - 1 = omega arith in ap (block_to n) e

    cut_water : (reading bed t (sums_of bed t) a b).water ≡ sum_to depth a b
    cut_water =
        ap (λ (r : Reading). r.water) (cut_reading bed t (sums_of bed t) c)
        ∙ ap (λ (x : ℤ). x +ℤ (sum_to depth a head +ℤ sum_to depth tail b)) middle
        ∙ solve (sum_to depth a head ∷ sum_to depth head tail ∷ sum_to depth tail b ∷ []) (v 1 ⊕ (v 0 ⊕ v 2)) (v 0 ⊕ v 1 ⊕ v 2) tt
        ∙ sym (sum_join depth a tail b (omega (arith, c.before, c.inside)) c.behind
        ∙ ap (λ (x : ℤ). x +ℤ sum_to depth tail b) (sum_join depth a head tail c.before c.inside))

  pub between_water : (a b : ℕ) → a ≤ b → b ≤ n → (reading bed t (sums_of bed t) a b).water ≡ sum_to depth a b
  between_water a b p q = cut_water (cutting n a b p q).cut

-- ---- whatever the tables hold, few cells are read, and no more blocks than there are
module _ (bed t sums : List ℤ) (a b : ℕ) (ordered : a ≤ b) (inside : b ≤ cells_over bed) where
  abbrev cut : Cutting (cells_over bed) a b
  cut = cutting (cells_over bed) a b ordered inside

  pub few_cells : (reading bed t sums a b).cells ≤ 30
  few_cells = rw (cut_reading bed t sums cut.cut) cut.cut.few

  pub few_blocks : cells_over bed ≤ most_cells → (reading bed t sums a b).blocks ≤ 64
  few_blocks most = rw (cut_reading bed t sums cut.cut) (omega (arith, cut.cut.most, most))
