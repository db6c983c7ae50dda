-- To be believed: `Pool`, `as_pool`, `as_row`, `pools_seen`, `pool_columns`, `pool_table` and `pool_in`.
-- Cells of a level and a discharge alone: as the code holds them, and in lent tables, a column for each of the two.
-- Assumes nothing.
use Rattle.std.specs.Prelude.{◌≡◌, refl, List, [], ◌∷◌, ℕ, zero, suc, ◌+◌, ◌*◌, ◌<◌, length, ℤ, pos}
use Rattle.std.proofs.Common.{sym, ◌∙◌, arith, lit<}
use Rattle.std.proofs.Math.Path.{ap}
use Rattle.std.proofs.Math.ListN.{get_or}
use Rattle.tables.specs.Rows.{row}
use Rattle.tables.specs.Columns.{columns, column, in_column, length_columns, columns_show, columns_are}
use Rattle.tables.specs.Columns.{put_from, length_put, Stores, stores_more}

pub record Pool : Type 0 where
  pub e : ℤ
  pub q : ℤ

-- as the code holds them, [i64; 2]
abbrev pub as_row : Pool → List ℤ
as_row x = x.e ∷ x.q ∷ []

abbrev pub as_pool : List ℤ → Pool
as_pool l = record { e = get_or l 0 (pos 0); q = get_or l 1 (pos 0) }

-- the one that a working table shows at each place
abbrev pub pools_seen : List (List ℤ) → ℕ → Pool
pools_seen a i = as_pool (get_or a i [])

-- ---- a lent state of n of them: a column of their levels and one of their discharges
abbrev pub pool_columns : (ℕ → Pool) → List (ℕ → ℤ)
pool_columns s = (λ i. (s i).e) ∷ (λ i. (s i).q) ∷ []

unfoldable pub pool_table : ℕ → (ℕ → Pool) → List ℤ
pool_table n s = columns n (pool_columns s)

-- number i as its table shows it
abbrev pub pool_in : ℕ → List ℤ → ℕ → Pool
pool_in n t i = record { e = in_column n t 0 i; q = in_column n t 1 i }

-- what is so of 0 and 1 is so of each number below 2
of_both : (P : ℕ → Type 0) → P 0 → P 1 → (m : ℕ) → m < 2 → P m
of_both P a b zero h = a
of_both P a b (suc zero) h = b
of_both P a b (suc (suc m)) h = let z : ⊥ = omega arith in absurd z

-- number m of a pool is in column m, and is found there
in_its_column : (s : ℕ → Pool) (i m : ℕ) → m < 2 → get_or (as_row (s i)) m (pos 0) ≡ column (pool_columns s) m i
in_its_column s i = of_both (λ m. get_or (as_row (s i)) m (pos 0) ≡ column (pool_columns s) m i) refl refl

shown : (n : ℕ) (t : List ℤ) (i m : ℕ) → m < 2 → in_column n t m i ≡ get_or (as_row (pool_in n t i)) m (pos 0)
shown n t i = of_both (λ m. in_column n t m i ≡ get_or (as_row (pool_in n t i)) m (pos 0)) refl refl

module _ (n : ℕ) where
  pub length_pools : (s : ℕ → Pool) → length (pool_table n s) ≡ 2 * n
  unfolding pool_table
  length_pools s = length_columns n (pool_columns s)

  -- the table shows them again,
  pub pool_in_table : (s : ℕ → Pool) (k : ℕ) → k < n → pool_in n (pool_table n s) k ≡ s k
  unfolding pool_table
  pool_in_table s k l =
      let a = columns_show n (pool_columns s) 0 k (lit< tt) l in let b = columns_show n (pool_columns s) 1 k (lit< tt) l in
      λ j. record { e = a j; q = b j }

  -- and one that shows them is theirs; so a table of 2n numbers is that of its pools
  pub pools_are : (t : List ℤ) (s : ℕ → Pool) → length t ≡ 2 * n → ((k : ℕ) → k < n → pool_in n t k ≡ s k) → t ≡ pool_table n s
  unfolding pool_table
  pools_are t s e h = columns_are n (pool_columns s) t e (λ m k b l.
      shown n t k m b ∙ ap (λ (x : Pool). get_or (as_row x) m (pos 0)) (h k l) ∙ in_its_column s k m b)

  pub table_pools : (t : List ℤ) → length t ≡ 2 * n → pool_table n (pool_in n t) ≡ t
  table_pools t e = sym (pools_are t (pool_in n t) e (λ k l. refl))

  -- ---- the table with number i put, by a loop that has stored those before it
  abbrev pub put_pool : List ℤ → ℕ → Pool → List ℤ
  put_pool t i x = put_from n 0 t i (as_row x)

  pub length_put_pool : (t : List ℤ) (i : ℕ) (x : Pool) → length (put_pool t i x) ≡ length t
  length_put_pool t i x = length_put n 0 t i (as_row x)

  pub pools_more : (s : ℕ → Pool) (t : List ℤ) (i : ℕ) → i < n → length t ≡ 2 * n → Stores n (pool_columns s) t i
      → Stores n (pool_columns s) (put_pool t i (s i)) (i + 1)
  pools_more s t i l e old = stores_more n (pool_columns s) t i (as_row (s i)) l e refl old (in_its_column s i)

  pub pools_all : (s : ℕ → Pool) (t : List ℤ) → length t ≡ 2 * n → Stores n (pool_columns s) t n → t ≡ pool_table n s
  unfolding pool_table
  pools_all s t e h = columns_are n (pool_columns s) t e h

-- ---- a list of two numbers is the row of its pool
pub of_two : (l : List ℤ) → length l ≡ 2 → l ≡ as_row (as_pool l)
unfolding pool_table columns row
of_two l e = sym (table_pools 1 l e)
