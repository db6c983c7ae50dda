-- The first check that is met, and the lowest place at which it is.
-- Assumes nothing.
use Rattle.std.specs.Prelude.{◌≡◌, Bool, true, false, cond, List, [], ◌∷◌, ◌⊎◌, ℕ, ◌<◌, T, ltb}
use Rattle.std.proofs.Common.{sym, ap, subst, inl, inr, arith, ne_eqb, ltb→lt}
use Rattle.whole.specs.Flags.{by, held}
use Rattle.tables.specs.Some.{IsLowest}
use Rattle.tables.proofs.Some.{lowest_is, is_lowest, yes_some}
use Rattle.rules.specs.Refusals.{Check, applies, lowest_of, verdict, spot}
use Rattle.rules.specs.Found.{Found, at, found}
use Rattle.rules.proofs.Laws.Accept.{other}
use Rattle.promises.specs.Seen.{FirstMet, here, later, FirstMetAt, here_at, later_at}

-- the verdict is that number,
pub first_verdict : (k : ℕ) {xs : List Check} → FirstMet k xs → verdict xs ≡ k
unfolding verdict
first_verdict k (here x xs b e) = rw b e
first_verdict k (later x xs b f) = rw b (first_verdict k f)

-- and only that one
pub verdict_first : (k : ℕ) (xs : List Check) → 0 < k → verdict xs ≡ k → FirstMet k xs
unfolding verdict
verdict_first k [] l e = let z : ⊥ = omega (arith, e) in absurd z
verdict_first k (x ∷ xs) l e = by (applies x) (λ b. here x xs b (rw b at e)) (λ b. later x xs b (verdict_first k xs l (rw b at e)))

-- ---- with its place
pub first_of : (k p : ℕ) {xs : List Check} → FirstMetAt k p xs → FirstMet k xs
first_of k p (here_at x xs l e) = here x xs (yes_some x.at x.many p l.below l.has) e
first_of k p (later_at x xs b f) = later x xs b (first_of k p f)

-- what is found is that number and that place,
pub first_found : (k p : ℕ) {xs : List Check} → FirstMetAt k p xs → found xs ≡ at k p
unfolding verdict spot
first_found k p (here_at x xs l e) =
    let low = sym (is_lowest x.at x.many p l) in rw (yes_some x.at x.many p l.below l.has) (λ j. at (e j) (low j))
first_found k p (later_at x xs b f) = rw b (first_found k p f)

-- and only that
pub found_first : (k p : ℕ) (xs : List Check) → 0 < k → found xs ≡ at k p → FirstMetAt k p xs
unfolding verdict spot
found_first k p [] l e = let z = ap (λ (f : Found). f.no) e in let y : ⊥ = omega (arith, z) in absurd y
found_first k p (x ∷ xs) l e = by (applies x)
    (λ b. let d : at x.no (lowest_of x) ≡ at k p = rw b at e in
    here_at x xs (subst (IsLowest x.at x.many) (ap (λ (f : Found). f.place) d) (lowest_is x.at x.many b))
    (ap (λ (f : Found). f.no) d))
    (λ b. later_at x xs b (found_first k p xs l (rw b at e)))

-- the first of a list is met, or the list after it
pub first_split : {k p : ℕ} {x : Check} {xs : List Check} → FirstMetAt k p (x ∷ xs)
    → ((IsLowest x.at x.many p) × (x.no ≡ k)) ⊎ ((applies x ≡ false) × FirstMetAt k p xs)
first_split (here_at x xs l e) = inl (l, e)
first_split (later_at x xs b f) = inr (b, f)

-- ---- its number is one of 1 to 8
abbrev pub listed : List Check → Bool
listed [] = true
listed (x ∷ xs) = cond (ltb 0 x.no) (cond (ltb x.no 9) (listed xs) false) false

first_in : (m : ℕ) (r : Bool) → T (cond (ltb 0 m) (cond (ltb m 9) r false) false) → (0 < m) × (m < 9)
first_in m r t = by (ltb 0 m)
    (λ p. by (ltb m 9) (λ q. (ltb→lt 0 m (held (ltb 0 m) p), ltb→lt m 9 (held (ltb m 9) q))) (λ q. absurd (rw (p, q) at t)))
    (λ p. absurd (rw p at t))

rest_in : (m : ℕ) (r : Bool) → T (cond (ltb 0 m) (cond (ltb m 9) r false) false) → T r
rest_in m r t = by (ltb 0 m) (λ p. by (ltb m 9) (λ q. rw (p, q) at t) (λ q. absurd (rw (p, q) at t))) (λ p. absurd (rw p at t))

pub first_listed : (k : ℕ) {xs : List Check} → FirstMet k xs → T (listed xs) → (0 < k) × (k < 9)
first_listed k (here x xs b e) t = subst (λ (m : ℕ). (0 < m) × (m < 9)) e (first_in x.no (listed xs) t)
first_listed k (later x xs b f) t = first_listed k f (rest_in x.no (listed xs) t)

-- so none of it has the number 0
pub listed_some : (xs : List Check) → T (listed xs) → T (other 0 xs)
listed_some [] t = tt
listed_some (x ∷ xs) t = let some = (first_in x.no (listed xs) t).0 in
    rw (ne_eqb x.no 0 (λ e. let z : ⊥ = omega arith in z)) (listed_some xs (rest_in x.no (listed xs) t))
