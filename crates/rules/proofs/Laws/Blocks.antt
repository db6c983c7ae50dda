-- Which blocks lie whole between two faces, and which cells are in none of those; so how many of either are read.
-- Assumes nothing.
use Rattle.std.specs.Prelude.{◌≡◌, true, false, ◌⊎◌, ℕ, suc, ◌+◌, ◌-◌, ◌/◌, ◌≤◌, ◌<◌, leb, ltb, ℤ, ◌+ℤ◌}
use Rattle.std.proofs.Math.Path.{refl}
use Rattle.std.proofs.Common.{inl, inr, ⊎_elim, arith}
use Rattle.std.proofs.Math.Decide.{dec_lt}
use borrow.Author.Tests.{leb-true, leb-false, le-leb, lt-leb, lt-ltb, le-ltb}
use Rattle.whole.specs.Flags.{by}
use Rattle.rules.specs.Limits.{block_cells}
use Rattle.rules.specs.Sums.{blocks_of, block_from, block_to, sum_to, count, only, whole_block, lone_cell}
use Rattle.rules.specs.Laws.Summing.{Has}
use Rattle.rules.proofs.Laws.Summing.{one_span, two_spans, one_count, two_counts}
use Rattle.rules.specs.Laws.Blocks.{Ended, Cut}

-- ---- one block, and one cell
-- a block ends where the next begins, or with the reach
pub block_end : (n m : ℕ)
    → ((block_from (suc m) ≤ n) × (block_to n m ≡ block_from (suc m))) ⊎ ((n < block_from (suc m)) × (block_to n m ≡ n))
unfolding block_to
block_end n m = by (leb (block_from (suc m)) n)
    (λ e. inl (leb-true (block_from (suc m)) n e, rw e refl)) (λ e. inr (leb-false (block_from (suc m)) n e, rw e refl))

module _ (n a b : ℕ) where
  whole_yes : (m : ℕ) → a ≤ block_from m → block_to n m ≤ b → whole_block n a b m ≡ true
  unfolding whole_block
  whole_yes m p q = rw (le-leb a (block_from m) p, le-leb (block_to n m) b q) refl

  whole_low : (m : ℕ) → block_from m < a → whole_block n a b m ≡ false
  unfolding whole_block
  whole_low m p = rw (lt-leb a (block_from m) p) refl

  whole_high : (m : ℕ) → b < block_to n m → whole_block n a b m ≡ false
  unfolding whole_block
  whole_high m p = by (leb a (block_from m)) (λ e. rw (e, lt-leb (block_to n m) b p) refl) (λ e. rw e refl)

  lone_yes : (i : ℕ) → a ≤ i → i < b → whole_block n a b (i / block_cells) ≡ false → lone_cell n a b i ≡ true
  unfolding lone_cell
  lone_yes i p q e = rw (le-leb a i p, lt-ltb i b q, e) refl

  lone_low : (i : ℕ) → i < a → lone_cell n a b i ≡ false
  unfolding lone_cell
  lone_low i p = rw (lt-leb a i p) refl

  lone_high : (i : ℕ) → b ≤ i → lone_cell n a b i ≡ false
  unfolding lone_cell
  lone_high i p = by (leb a i) (λ e. rw (e, le-ltb i b p) refl) (λ e. rw e refl)

  lone_not : (i : ℕ) → whole_block n a b (i / block_cells) ≡ true → lone_cell n a b i ≡ false
  unfolding lone_cell
  lone_not i w = by (leb a i) (λ e. by (ltb i b) (λ d. rw (e, d, w) refl) (λ d. rw (e, d) refl)) (λ e. rw e refl)

pub ended_all : (n : ℕ) → Ended n n (blocks_of n)
ended_all n = record {
  most = omega arith;
  before = λ m l. ⊎_elim (λ e. omega (arith, e)) (λ e. omega (arith, e)) (block_end n m);
  after = λ m p q. let z : ⊥ = omega arith in absurd z;
  is = inl (refl, refl);
}

pub ended_part : (n b : ℕ) → b < n → Ended n b (b / block_cells)
ended_part n b l = record {
  most = omega arith;
  before = λ m p. ⊎_elim (λ e. omega (arith, e)) (λ e. omega (arith, e)) (block_end n m);
  after = λ m p q. ⊎_elim (λ e. omega (arith, e)) (λ e. omega (arith, e)) (block_end n m);
  is = inr (l, refl);
}

module _ (n a b last : ℕ) (ordered : a ≤ b) (reach : b ≤ n) (end : Ended n b last) where
  abbrev first : ℕ
  first = blocks_of a

  low : Has (whole_block n a b) false 0 first
  low m p q = whole_low n a b m (omega arith)

  -- some lie whole
  pub cut_some : first < last → Cut n a b (block_from first) first last (block_to n (last - 1))
  cut_some some = record {
    before = omega arith;
    inside = ⊎_elim (λ e. omega (arith, e, end.most)) (λ e. omega (arith, e, end.most)) (block_end n (last - 1));
    behind = end.before (last - 1) (omega arith);
    reach = reach;
    order = omega arith;
    most = end.most;
    whole = λ m p q. whole_yes n a b m (omega arith) (end.before m q);
    under = low;
    over = λ m p q. whole_high n a b m (end.after m p q);
    ends = inl (some, refl, refl);
    few = ⊎_elim (λ e. ⊎_elim (λ d. omega (arith, e, d)) (λ d. omega (arith, e, d)) end.is)
        (λ e. ⊎_elim (λ d. omega (arith, e, d)) (λ d. omega (arith, e, d)) end.is) (block_end n (last - 1));
  }

  -- none does
  pub cut_none : last ≤ first → Cut n a b b first first b
  cut_none none = record {
    before = ordered;
    inside = omega arith;
    behind = omega arith;
    reach = reach;
    order = omega arith;
    most = omega arith;
    whole = λ m p q. let z : ⊥ = omega arith in absurd z;
    under = low;
    over = λ m p q. whole_high n a b m (end.after m (omega arith) q);
    ends = inr (refl, refl, refl);
    few = ⊎_elim (λ d. omega (arith, d)) (λ d. omega (arith, d)) end.is;
  }

-- any two faces in order have such a cut
pub record Cutting (n a b : ℕ) : Type 0 where
  pub head : ℕ
  pub first : ℕ
  pub last : ℕ
  pub tail : ℕ
  pub cut : Cut n a b head first last tail

pub cutting : (n a b : ℕ) → a ≤ b → b ≤ n → Cutting n a b
cutting n a b p q = go (dec_lt b n)
  where
    cut_at : (last : ℕ) → Ended n b last → Dec (blocks_of a < last) → Cutting n a b
    cut_at last e (yes some) = record { head = _; first = _; last = _; tail = _; cut = cut_some n a b last p q e some }
    cut_at last e (no none) = record { head = _; first = _; last = _; tail = _; cut = cut_none n a b last p q e (omega arith) }

    go : Dec (b < n) → Cutting n a b
    go (yes l) = cut_at (b / block_cells) (ended_part n b l) (dec_lt (blocks_of a) (b / block_cells))
    go (no l) = let e : n ≡ b = omega arith in cut_at (blocks_of n) (rw (← e) (ended_all n)) (dec_lt (blocks_of a) (blocks_of n))

-- ---- what is read
module _ {n a b head first last tail : ℕ} (c : Cut n a b head first last tail) where
  -- the block of a cell
  abbrev at : ℕ → ℕ
  at i = i / block_cells

  cells_low : Has (lone_cell n a b) false 0 a
  cells_low i p q = lone_low n a b i q

  cells_before : Has (lone_cell n a b) true a head
  cells_before i p q = lone_yes n a b i p (omega (arith, c.inside, c.behind)) (⊎_elim
      (λ e. c.under (at i) (omega arith) (omega (arith, e)))
      (λ e. under_or_over (dec_lt (at i) first) e.0) c.ends)
    where
      under_or_over : Dec (at i < first) → first ≡ last → whole_block n a b (at i) ≡ false
      under_or_over (yes l) e = c.under (at i) (omega arith) l
      under_or_over (no l) e = c.over (at i) (omega arith) (omega (arith, c.inside, c.behind, c.reach))

  cells_inside : Has (lone_cell n a b) false head tail
  cells_inside i p q = lone_not n a b i (⊎_elim
      (λ e. c.whole (at i) (omega (arith, e))
      (⊎_elim (λ d. omega (arith, e, d)) (λ d. omega (arith, e, d, c.behind, c.reach)) (block_end n (last - 1))))
      (λ e. let z : ⊥ = omega (arith, e) in absurd z) c.ends)

  cells_behind : Has (lone_cell n a b) true tail b
  cells_behind i p q = lone_yes n a b i (omega (arith, c.before, c.inside)) q (⊎_elim
      (λ e. c.over (at i) (⊎_elim (λ d. omega (arith, e, d)) (λ d. omega (arith, e, d, c.reach)) (block_end n (last - 1)))
      (omega (arith, c.reach)))
      (λ e. let z : ⊥ = omega (arith, e) in absurd z) c.ends)

  cells_high : Has (lone_cell n a b) false b n
  cells_high i p q = lone_high n a b i p

  pub blocks_read : (f : ℕ → ℤ) → sum_to (only (whole_block n a b) f) 0 (blocks_of n) ≡ sum_to f first last
  blocks_read f = one_span (whole_block n a b) f 0 first last (blocks_of n) (omega arith) c.order c.most c.under c.whole c.over

  pub cells_read : (f : ℕ → ℤ) → sum_to (only (lone_cell n a b) f) 0 n ≡ sum_to f a head +ℤ sum_to f tail b
  cells_read f = two_spans (lone_cell n a b) f a head tail b n c.before c.inside c.behind c.reach
      cells_low cells_before cells_inside cells_behind cells_high

  pub blocks_counted : count (whole_block n a b) (blocks_of n) ≡ last - first
  blocks_counted = one_count (whole_block n a b) first last (blocks_of n) c.order c.most c.under c.whole c.over

  pub cells_counted : count (lone_cell n a b) n ≡ head - a + (b - tail)
  cells_counted = two_counts (lone_cell n a b) a head tail b n c.before c.inside c.behind c.reach
      cells_low cells_before cells_inside cells_behind cells_high
