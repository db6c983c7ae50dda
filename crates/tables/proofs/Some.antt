-- What tests of every place below n say: whether some place has a property, and the lowest that has.
-- Assumes nothing.
use Rattle.std.specs.Prelude.{◌≡◌, refl, Bool, true, false, cond, ◌||◌, ℕ, zero, suc, ◌+◌, ◌-◌, ◌≤◌, ◌<◌}
use Rattle.std.proofs.Common.{sym, ◌∙◌, ap₂, arith}
use Rattle.std.proofs.Math.Decide.{ℕ_discrete, dec_lt}
use Rattle.whole.specs.Flags.{or_l, or_r, clash, by}
use Rattle.tables.specs.Some.{some, lowest, IsLowest}

pub some_none : (p : ℕ → Bool) (n : ℕ) → some p n ≡ false → (i : ℕ) → i < n → p i ≡ false
unfolding some
some_none p zero e i l = let z : ⊥ = omega arith in absurd z
some_none p (suc n) e i l = go (ℕ_discrete i n) (some_none p n (or_l (some p n) (p n) e) i)
  where
    go : Dec (i ≡ n) → (i < n → p i ≡ false) → p i ≡ false
    go (yes s) f = rw s (or_r (some p n) (p n) e)
    go (no s) f = f (omega (arith, s))

pub none_some : (p : ℕ → Bool) (n : ℕ) → ((i : ℕ) → i < n → p i ≡ false) → some p n ≡ false
unfolding some
none_some p zero f = refl
none_some p (suc n) f = rw (none_some p n (λ i l. f i (omega arith)), f n (omega arith))

pub some_yes : (p : ℕ → Bool) (n : ℕ) → some p n ≡ true → (i : ℕ) × (i < n) × (p i ≡ true)
unfolding some
some_yes p zero e = clash e
some_yes p (suc n) e = go (some p n) (p n) refl refl e (some_yes p n)
  where
    go : (a b : Bool) → some p n ≡ a → p n ≡ b → (a || b) ≡ true → (some p n ≡ true → (i : ℕ) × (i < n) × (p i ≡ true))
        → (i : ℕ) × (i < suc n) × (p i ≡ true)
    go true b d f e h = let k = h d in (k.0, omega (arith, k.1), k.2)
    go false true d f e h = (n, omega arith, f)
    go false false d f e h = clash e

pub yes_some : (p : ℕ → Bool) (n i : ℕ) → i < n → p i ≡ true → some p n ≡ true
yes_some p n i l e = by (some p n) (λ d. d) (λ d. clash (sym (some_none p n d i l) ∙ e))

-- two properties that agree below n
pub some_same : (p q : ℕ → Bool) (n : ℕ) → ((i : ℕ) → i < n → p i ≡ q i) → some p n ≡ some q n
unfolding some
some_same p q zero e = refl
some_same p q (suc n) e = ap₂ ◌||◌ (some_same p q n (λ i l. e i (omega arith))) (e n (omega arith))

-- two properties, each of which is the other from the last place to the first
pub some_reversed : (p q : ℕ → Bool) (n : ℕ) → ((i j : ℕ) → suc (i + j) ≡ n → q i ≡ p j) → some q n ≡ some p n
some_reversed p q n f = by (some p n)
    (λ e. let k = some_yes p n e in has k.0 k.1 k.2 ∙ sym e)
    (λ e. none_some q n (λ i l. f i (n - suc i) (omega arith) ∙ some_none p n e (n - suc i) (omega arith)) ∙ sym e)
  where
    has : (j : ℕ) → j < n → p j ≡ true → some q n ≡ true
    has j l e = yes_some q n (n - suc j) (omega arith) (f (n - suc j) j (omega arith) ∙ e)

pub lowest_is : (p : ℕ → Bool) (n : ℕ) → some p n ≡ true → IsLowest p n (lowest p n)
unfolding some lowest
lowest_is p zero e = clash e
lowest_is p (suc n) e = by (some p n)
    (λ d. rw d (let k = lowest_is p n d in record { below = omega (arith, k.below); has = k.has; under = k.under }))
    (λ d. let h : p n ≡ true = rw d at e in rw (d, h) (record { below = omega arith; has = h; under = some_none p n d }))

-- there is one such place
pub one_lowest : {p : ℕ → Bool} {n i j : ℕ} → IsLowest p n i → IsLowest p n j → i ≡ j
one_lowest {p} {n} {i} {j} a b = go (dec_lt i j) (dec_lt j i)
  where
    go : Dec (i < j) → Dec (j < i) → i ≡ j
    go (yes h) _ = clash (sym (b.under i h) ∙ a.has)
    go (no h) (yes k) = clash (sym (a.under j k) ∙ b.has)
    go (no h) (no k) = omega arith

pub is_lowest : (p : ℕ → Bool) (n i : ℕ) → IsLowest p n i → i ≡ lowest p n
is_lowest p n i h = one_lowest h (lowest_is p n (yes_some p n i h.below h.has))

-- where none has, it is n; so it tells whether one has
pub lowest_none : (p : ℕ → Bool) (n : ℕ) → some p n ≡ false → n ≡ lowest p n
unfolding some lowest
lowest_none p zero e = refl
lowest_none p (suc n) e = rw (or_l (some p n) (p n) e, or_r (some p n) (p n) e)

pub lowest_below : (p : ℕ → Bool) (n : ℕ) → lowest p n < n → some p n ≡ true
lowest_below p n h = by (some p n) (λ d. d) (λ d. let e = lowest_none p n d in let z : ⊥ = omega arith in absurd z)

pub lowest_past : (p : ℕ → Bool) (n : ℕ) → n ≤ lowest p n → some p n ≡ false
lowest_past p n h = by (some p n) (λ d. let e = (lowest_is p n d).below in let z : ⊥ = omega arith in absurd z) (λ d. d)

-- none below it has, whether it has or not
pub below_lowest : (p : ℕ → Bool) (n k : ℕ) → k < lowest p n → p k ≡ false
below_lowest p n k l = by (some p n) (λ d. (lowest_is p n d).under k l) (λ d. some_none p n d k (let e = lowest_none p n d in omega arith))

-- of two properties that agree below n
pub lowest_same : (p q : ℕ → Bool) (n : ℕ) → ((i : ℕ) → i < n → p i ≡ q i) → lowest p n ≡ lowest q n
unfolding lowest
lowest_same p q zero e = refl
lowest_same p q (suc n) e = let f : (i : ℕ) → i < n → p i ≡ q i = λ i l. e i (omega arith) in
    λ k. cond (some_same p q n f k) (lowest_same p q n f k) (cond (e n (omega arith) k) n (suc n))
