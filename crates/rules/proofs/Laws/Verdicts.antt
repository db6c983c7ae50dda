-- The number and the place that a list of checks gives, and those of two lists in a row: the first list's where one of it applies, else
-- the second's.
-- Assumes nothing.
use Rattle.std.specs.Prelude.{◌≡◌, refl, Bool, true, false, cond, List, [], ◌∷◌, ◌++◌, ℕ, zero, suc, ◌≤◌, ◌<◌, T, eqb, leb}
use Rattle.std.proofs.Common.{sym, ◌∙◌, ap, subst, arith, leb→le}
use Rattle.std.proofs.Math.Dec.{eqb_refl}
use Rattle.whole.specs.Flags.{holds, held, clash, by}
use Rattle.tables.specs.Some.{some}
use Rattle.tables.proofs.Some.{lowest_below, lowest_past}
use Rattle.rules.specs.Refusals.{Check, of_call, applies, lowest_of, verdict, spot, Clear}
use Rattle.rules.specs.Found.{Found, at, found, none}
use Rattle.rules.proofs.Laws.Accept.{other}

pub stopped : (xs ys : List Check) (k : Found) → k ≡ found xs → (k.no ≡ 0 → ⊥) → k ≡ found (xs ++ ys)
unfolding verdict spot
stopped [] ys k e f = absurd (f (ap (λ (m : Found). m.no) e))
stopped (x ∷ xs) ys k e f = go (applies x) e (stopped xs ys k)
  where
    go : (b : Bool) → k ≡ at (cond b x.no (verdict xs)) (cond b (lowest_of x) (spot xs))
        → (k ≡ found xs → (k.no ≡ 0 → ⊥) → k ≡ found (xs ++ ys))
        → k ≡ at (cond b x.no (verdict (xs ++ ys))) (cond b (lowest_of x) (spot (xs ++ ys)))
    go true d h = d
    go false d h = h d f

-- a list none of which applies, where no number in it is 0
pub cleared : (xs : List Check) → T (other 0 xs) → 0 ≡ verdict xs → Clear xs
unfolding verdict
cleared [] t e = tt
cleared (x ∷ xs) t e = go (eqb x.no 0) (applies x) refl refl t e (cleared xs)
  where
    go : (a b : Bool) → eqb x.no 0 ≡ a → applies x ≡ b → T (cond a false (other 0 xs)) → 0 ≡ cond b x.no (verdict xs)
        → (T (other 0 xs) → 0 ≡ verdict xs → Clear xs) → Clear (x ∷ xs)
    go true b d f t e h = absurd t
    go false true d f t e h =
        clash (sym d ∙ holds (eqb x.no 0) (subst (λ (m : ℕ). T (eqb x.no m)) (sym e) (eqb_refl x.no)))
    go false false d f t e h = (f, h t e)

-- the same of what it found
pub clear_found : (xs : List Check) → T (other 0 xs) → {k : Found} → k ≡ found xs → k.no ≡ 0 → Clear xs
clear_found xs t e z = cleared xs t (sym z ∙ ap (λ (m : Found). m.no) e)

pub went_on : (xs ys : List Check) → T (other 0 xs) → {k : Found} → k ≡ found xs → k.no ≡ 0 → found ys ≡ found (xs ++ ys)
unfolding verdict spot
went_on xs ys t e z = go xs (clear_found xs t e z)
  where
    go : (zs : List Check) → Clear zs → found ys ≡ found (zs ++ ys)
    go [] c = refl
    go (z ∷ zs) c = rw c.0 (go zs c.1)

-- what comes after a list matters only where none of it applies
pub verdict_after : (xs ys zs : List Check) → (Clear xs → verdict ys ≡ verdict zs) → verdict (xs ++ ys) ≡ verdict (xs ++ zs)
unfolding verdict
verdict_after [] ys zs f = f tt
verdict_after (x ∷ xs) ys zs f = by (applies x) (λ b. rw b) (λ b. rw b (verdict_after xs ys zs (λ k. f (b, k))))

-- the check at each position of a list, and that it does not apply
abbrev pub check_at : List Check → ℕ → Check
check_at [] i = of_call 0 false
check_at (x ∷ xs) zero = x
check_at (x ∷ xs) (suc i) = check_at xs i

pub clear_at : (xs : List Check) → Clear xs → (i : ℕ) → applies (check_at xs i) ≡ false
unfolding some
clear_at [] c i = refl
clear_at (x ∷ xs) c zero = c.0
clear_at (x ∷ xs) c (suc i) = clear_at xs c.1 i

-- one of the call as a whole applies where its condition holds
pub of_call_lem : (k : ℕ) (b : Bool) → applies (of_call k b) ≡ b
unfolding some
of_call_lem k b = refl

-- a list of which those before the position i do not apply and the one there does, at p at the lowest
abbrev pub ClearTo : List Check → ℕ → Type 0
ClearTo xs zero = Unit {0}
ClearTo [] (suc i) = Unit {0}
ClearTo (x ∷ xs) (suc i) = (applies x ≡ false) × ClearTo xs i

pub stops_at : (xs : List Check) (i p : ℕ) → ClearTo xs i → p ≡ lowest_of (check_at xs i) → p < (check_at xs i).many
    → at (check_at xs i).no p ≡ found xs
unfolding verdict spot some
stops_at xs i p c e l = ap (at (check_at xs i).no) e
    ∙ go xs i c (lowest_below (check_at xs i).at (check_at xs i).many (subst (λ (m : ℕ). m < (check_at xs i).many) e l))
  where
    go : (ys : List Check) (j : ℕ) → ClearTo ys j → applies (check_at ys j) ≡ true
        → at (check_at ys j).no (lowest_of (check_at ys j)) ≡ found ys
    go [] j c e = clash e
    go (y ∷ ys) zero c e = rw e
    go (y ∷ ys) (suc j) c e = rw c.0 (go ys j c.1 e)

-- where p is past them all, it does not apply
pub passes : (x : Check) (p : ℕ) → p ≡ lowest_of x → x.many ≤ p → applies x ≡ false
passes x p e l = lowest_past x.at x.many (subst (λ (m : ℕ). x.many ≤ m) e l)

-- a list none of which applies
pub none_stops : (xs : List Check) → Clear xs → none ≡ found xs
unfolding verdict spot
none_stops [] c = refl
none_stops (x ∷ xs) c = rw c.0 (none_stops xs c.1)

-- two lists in a row
pub clear_parts : (xs ys : List Check) → Clear (xs ++ ys) → (Clear xs) × (Clear ys)
clear_parts [] ys c = (tt, c)
clear_parts (x ∷ xs) ys c = let rest = clear_parts xs ys c.1 in ((c.0, rest.0), rest.1)

-- none of a list has a number over m, so a verdict over m is that of what comes after it
abbrev pub up_to : ℕ → List Check → Bool
up_to m [] = true
up_to m (x ∷ xs) = cond (leb x.no m) (up_to m xs) false

pub went_past : (m : ℕ) (xs ys : List Check) → T (up_to m xs) → m < verdict (xs ++ ys) → (Clear xs) × (verdict (xs ++ ys) ≡ verdict ys)
unfolding verdict
went_past m [] ys t l = (tt, refl)
went_past m (x ∷ xs) ys t l = by (leb x.no m)
    (λ low. by (applies x)
    (λ b. let few = leb→le x.no m (held (leb x.no m) low) in let over : m < x.no = rw b at l in let z : ⊥ = omega arith in absurd z)
    (λ b. let rest = went_past m xs ys (rw low at t) (rw b at l) in ((b, rest.0), rw b rest.1)))
    (λ high. absurd (rw high at t))
