-- To be believed: `columns`, `column` and `in_column`.
-- A lent table in columns of n numbers, one after another: what it shows, and what a loop has stored of it.
-- Assumes nothing.
use Rattle.std.specs.Prelude.{◌≡◌, refl, set, ℤ, pos}
use Rattle.std.proofs.Common.{sym, ◌∙◌, subst, not-suc-le-zero, length-set, get_or-set_same, get_or-set_other, ext_get_or}
use Rattle.std.proofs.Math.Path.{ap}
use mathlib.Core.List.{List, [], ◌∷◌, ◌++◌}
use Prim.Native.Nat.{ℕ, zero, suc, ◌+◌, ◌-◌, ◌*◌, ◌≤◌, ◌<◌}
use native.Mathlib.Omega.{arith}
use Rattle.std.proofs.Math.Decide.{dec_lt, ℕ_discrete}
use Rattle.std.proofs.Math.ListN.{length, get_or, length-append, get_or-append}
use Rattle.std.proofs.Math.Seq.{get_or-append-add}
use Rattle.tables.specs.Rows.{row, length_row, get_d_row}

-- the table of some columns
unfoldable pub columns : ℕ → List (ℕ → ℤ) → List ℤ
columns n [] = []
columns n (f ∷ fs) = row n f ++ columns n fs

-- column m of them
abbrev pub column : List (ℕ → ℤ) → ℕ → ℕ → ℤ
column fs m = get_or fs m (λ k. pos 0)

module _ (n : ℕ) where
  -- number k of column m, as a table shows it
  abbrev pub in_column : List ℤ → ℕ → ℕ → ℤ
  in_column t m k = get_or t (m * n + k) (pos 0)

  pub length_columns : (fs : List (ℕ → ℤ)) → length (columns n fs) ≡ length fs * n
  unfolding columns
  length_columns [] = let e : 0 ≡ 0 * n = omega arith in e
  length_columns (f ∷ fs) =
      let e : suc (length fs) * n ≡ n + length fs * n = omega arith in
      length-append (row n f) (columns n fs) ∙ omega (arith, length_row n f, length_columns fs)

  -- the table shows its columns again
  pub columns_show : (fs : List (ℕ → ℤ)) (m k : ℕ) → m < length fs → k < n → in_column (columns n fs) m k ≡ column fs m k
  unfolding columns
  columns_show [] m k h l = absurd (not-suc-le-zero h)
  columns_show (f ∷ fs) zero k h l =
      let e : 0 * n + k ≡ k = omega arith in
      ap (λ (j : ℕ). get_or (row n f ++ columns n fs) j (pos 0)) e
      ∙ get_or-append (row n f) (columns n fs) (pos 0) k (omega (arith, length_row n f)) ∙ get_d_row n f k (pos 0) l
  columns_show (f ∷ fs) (suc m) k h l =
      let e : suc m * n + k ≡ length (row n f) + (m * n + k) = omega (arith, length_row n f) in
      ap (λ (j : ℕ). get_or (row n f ++ columns n fs) j (pos 0)) e
      ∙ get_or-append-add (row n f) (columns n fs) (m * n + k) (pos 0) ∙ columns_show fs m k (omega arith) l

  -- ---- places: each is that of one number of one column
  one_place : (k i : ℕ) → k < n → i < n → (a b : ℕ) → a * n + k ≡ b * n + i → (a ≡ b) × (k ≡ i)
  one_place k i p q zero zero e = (refl, omega arith)
  one_place k i p q zero (suc b) e = let z : ⊥ = (let s : suc b * n ≡ n + b * n = omega arith in omega arith) in absurd z
  one_place k i p q (suc a) zero e = let z : ⊥ = (let s : suc a * n ≡ n + a * n = omega arith in omega arith) in absurd z
  one_place k i p q (suc a) (suc b) e =
      let s : suc a * n ≡ n + a * n = omega arith in let t : suc b * n ≡ n + b * n = omega arith in
      let r = one_place k i p q a b (omega arith) in (ap suc r.0, r.1)

  record Placed (w j : ℕ) : Type 0 where
    col : ℕ
    at : ℕ
    within : col < w
    below : at < n
    is : col * n + at ≡ j

  placed : (w j : ℕ) → j < w * n → Placed w j
  placed zero j l = let z : ⊥ = (let s : 0 * n ≡ 0 = omega arith in omega arith) in absurd z
  placed (suc w) j l = go (dec_lt j n) (λ a. placed w (j - n) (let s : suc w * n ≡ n + w * n = omega arith in omega (arith, a)))
    where
      go : Dec (j < n) → ((j < n → ⊥) → Placed w (j - n)) → Placed (suc w) j
      go (yes a) f = record { col = 0; at = j; within = omega arith; below = a; is = omega arith }
      go (no a) f = let p = f a in record {
        col = suc p.col;
        at = p.at;
        within = omega (arith, p.within);
        below = p.below;
        is = let e : suc p.col * n ≡ n + p.col * n = omega arith in omega (arith, p.is);
      }

  -- so a table that shows the numbers of some columns is theirs
  pub columns_are : (fs : List (ℕ → ℤ)) (t : List ℤ) → length t ≡ length fs * n
      → ((m k : ℕ) → m < length fs → k < n → in_column t m k ≡ column fs m k) → t ≡ columns n fs
  columns_are fs t e h = ext_get_or (pos 0) t (columns n fs) (e ∙ sym (length_columns fs)) (λ j l. go j (placed (length fs) j (omega arith)))
    where
      go : (j : ℕ) → Placed (length fs) j → get_or t j (pos 0) ≡ get_or (columns n fs) j (pos 0)
      go j p = rw (← p.is) (h p.col p.at p.within p.below ∙ sym (columns_show fs p.col p.at p.within p.below))

  -- and what is so of each number of the columns is so of each of their table
  pub columns_each : (fs : List (ℕ → ℤ)) (P : ℤ → Type 0) → ((m k : ℕ) → m < length fs → k < n → P (column fs m k))
      → (j : ℕ) → j < length fs * n → P (get_or (columns n fs) j (pos 0))
  columns_each fs P h j l = let p = placed (length fs) j l in
      rw (← p.is) (subst P (sym (columns_show fs p.col p.at p.within p.below)) (h p.col p.at p.within p.below))

  -- ---- stores: the numbers of place i, one into each column from m on
  abbrev pub put_from : ℕ → List ℤ → ℕ → List ℤ → List ℤ
  put_from m t i [] = t
  put_from m t i (v ∷ vs) = put_from (suc m) (set t (m * n + i) v) i vs

  pub length_put : (m : ℕ) (t : List ℤ) (i : ℕ) (vs : List ℤ) → length (put_from m t i vs) ≡ length t
  length_put m t i [] = refl
  length_put m t i (v ∷ vs) = length_put (suc m) (set t (m * n + i) v) i vs ∙ length-set t (m * n + i) v

  module _ (i : ℕ) (inside : i < n) where
    -- a number of another place, or of a column before, is as it was
    kept : (m : ℕ) (t : List ℤ) (vs : List ℤ) (a k : ℕ) → k < n → (k ≡ i → a < m) → in_column (put_from m t i vs) a k ≡ in_column t a k
    kept m t [] a k l h = refl
    kept m t (v ∷ vs) a k l h =
        kept (suc m) (set t (m * n + i) v) vs a k l (λ e. let z = h e in omega arith)
        ∙ get_or-set_other t (m * n + i) (a * n + k) v (pos 0) (λ e. let r = one_place k i l inside a m e in let z = h r.1 in
        let y : ⊥ = omega (arith, r.0) in y)

    put_same : (m : ℕ) (t : List ℤ) (vs : List ℤ) → (length vs + m) * n ≤ length t → (a : ℕ) → a < length vs
        → in_column (put_from m t i vs) (a + m) i ≡ get_or vs a (pos 0)
    put_same m t [] r a h = absurd (not-suc-le-zero h)
    put_same m t (v ∷ vs) r zero h =
        let e : 0 + m ≡ m = omega arith in
        ap (λ (b : ℕ). in_column (put_from (suc m) (set t (m * n + i) v) i vs) b i) e
        ∙ kept (suc m) (set t (m * n + i) v) vs m i inside (λ y. omega arith)
        ∙ get_or-set_same t (m * n + i) v (pos 0) (let s : (suc (length vs) + m) * n ≡ n + m * n + length vs * n = omega arith in omega arith)
    put_same m t (v ∷ vs) r (suc a) h =
        let e : suc a + m ≡ a + suc m = omega arith in let w : (suc (length vs) + m) * n ≡ (length vs + suc m) * n = omega arith in
        ap (λ (b : ℕ). in_column (put_from (suc m) (set t (m * n + i) v) i vs) b i) e
        ∙ put_same (suc m) (set t (m * n + i) v) vs (omega (arith, length-set t (m * n + i) v)) a (omega arith)

-- ---- what a loop has stored so far: below i the table t has the numbers of some columns
abbrev pub Stores : ℕ → List (ℕ → ℤ) → List ℤ → ℕ → Type 0
Stores n fs t i = (m k : ℕ) → m < length fs → k < i → in_column n t m k ≡ column fs m k

pub stores_none : (n : ℕ) (fs : List (ℕ → ℤ)) (t : List ℤ) → Stores n fs t 0
stores_none n fs t m k h l = absurd (not-suc-le-zero l)

pub stores_more : (n : ℕ) (fs : List (ℕ → ℤ)) (t : List ℤ) (i : ℕ) (vs : List ℤ) → i < n → length t ≡ length fs * n
    → length vs ≡ length fs → Stores n fs t i → ((m : ℕ) → m < length fs → get_or vs m (pos 0) ≡ column fs m i)
    → Stores n fs (put_from n 0 t i vs) (i + 1)
stores_more n fs t i vs inside e size old new m k h l = go (ℕ_discrete k i)
  where
    go : Dec (k ≡ i) → in_column n (put_from n 0 t i vs) m k ≡ column fs m k
    go (yes q) =
        let z : m + 0 ≡ m = omega arith in
        let room : (length vs + 0) * n ≤ length t = (let y : length vs + 0 ≡ length fs = omega arith in rw y (omega arith)) in
        rw (q, ← z) (put_same n i inside 0 t vs room m (omega arith) ∙ rw z (new m h))
    go (no q) = kept n i inside 0 t vs m k (omega (arith, q)) (λ y. absurd (q y)) ∙ old m k h (omega (arith, q))
