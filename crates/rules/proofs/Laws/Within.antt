-- No place lies past the last face of the reach, and so none past 1,024; that of a check of the call as a whole is 0.
-- Assumes nothing.
use Rattle.std.specs.Prelude.{◌≡◌, refl, Bool, true, false, cond, List, [], ◌∷◌, ℕ, suc, ◌≤◌, T, eqb, leb, length}
use Rattle.std.proofs.Common.{ap, subst, arith, eq-eqb, leb→le}
use Rattle.whole.specs.Flags.{by, held}
use Rattle.tables.proofs.Some.{lowest_is}
use Rattle.rules.specs.Reach.{Reach, Call, State}
use Rattle.rules.specs.Refusals.{Check, applies, verdict, spot, stage_checks, early, checks}
use Rattle.rules.specs.Lent.{Lent, cells_of, reach_of, call_of, state_of, misfits, place}
use Rattle.rules.specs.Found.{Found}
use Rattle.rules.proofs.Laws.Lengths.{fitted, first_found, later_found}

-- no check of a list has more than m places and one
abbrev pub Within : ℕ → List Check → Type 0
Within m [] = Unit {0}
Within m (x ∷ xs) = (x.many ≤ suc m) × Within m xs

pub spot_within : (m : ℕ) (xs : List Check) → Within m xs → spot xs ≤ m
unfolding spot
spot_within m [] w = omega arith
spot_within m (x ∷ xs) w = by (applies x)
    (λ e. rw e (let l = (lowest_is x.at x.many e).below in omega (arith, l, w.0)))
    (λ e. rw e (spot_within m xs w.1))

pub checks_within : (r : Reach) (c : Call) (s : State) → Within r.n (checks r c s)
unfolding checks early stage_checks
checks_within r c s = let face : suc r.n ≤ suc r.n = omega arith in let cell : r.n ≤ suc r.n = omega arith in
    (omega arith, (face, (cell, (cell, (cell, (face, (cell, (face, (cell, (face, (cell, (face, (cell, tt)))))))))))))

-- a 1 has the place 0
first_place : (a : Lent) → misfits a ≡ true → 0 ≡ place a
first_place a e = ap (λ (k : Found). k.place) (first_found a e)

pub place_within : (a : Lent) → place a ≤ cells_of a
place_within a = by (misfits a) (λ e. let z = first_place a e in omega arith)
    (λ e. subst (λ (m : ℕ). m ≤ cells_of a) (ap (λ (k : Found). k.place) (later_found a e))
    (spot_within (cells_of a) (checks (reach_of a) (call_of a) (state_of a)) (checks_within (reach_of a) (call_of a) (state_of a))))

pub place_most : (a : Lent) → place a ≤ 1024
place_most a = by (misfits a) (λ e. let z = first_place a e in omega arith)
    (λ e. let w = place_within a in
    let f = (fitted (length a.now) a.room (length a.bed) (cells_of a) e).most in omega arith)

-- ---- every check of a list with the number k has at most one place
abbrev pub one_only : ℕ → List Check → Bool
one_only k [] = true
one_only k (x ∷ xs) = cond (eqb x.no k) (cond (leb x.many 1) (one_only k xs) false) (one_only k xs)

pub spot_whole : (k : ℕ) (xs : List Check) → T (one_only k xs) → verdict xs ≡ k → spot xs ≡ 0
unfolding verdict spot
spot_whole k [] t e = refl
spot_whole k (x ∷ xs) t e = by (applies x)
    (λ b. rw b (let l = (lowest_is x.at x.many b).below in let m = few t (rw b at e) in omega arith))
    (λ b. rw b (spot_whole k xs (rest t) (rw b at e)))
  where
    few : T (one_only k (x ∷ xs)) → x.no ≡ k → x.many ≤ 1
    few t d = leb→le x.many 1 (by (leb x.many 1) (λ b. held (leb x.many 1) b) (λ b. absurd (rw (eq-eqb x.no k d, b) at t)))

    rest : T (one_only k (x ∷ xs)) → T (one_only k xs)
    rest t = by (eqb x.no k)
        (λ b. by (leb x.many 1) (λ d. rw (b, d) at t) (λ d. absurd (rw (b, d) at t)))
        (λ b. rw b at t)
