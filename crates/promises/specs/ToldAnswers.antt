-- From what a caller in C is told of a step to its answer, whatever the reach: r is the number, vs and vs' are the two volumes before and
-- after it, ps and ps' the place.
-- Assumes nothing.
use Rattle.std.specs.Prelude.{◌≡◌, refl, List, ℕ, ◌<◌, length, get_or, set, ℤ, pos}
use Rattle.std.proofs.Common.{sym, ◌∙◌, ap, subst, arith, length-set, get_or-set_same, get_or-set_other}
use Rattle.rules.specs.Lent.{Outcome, refused, accepted}
use Rattle.reach.specs.Gives.{code, placed, volumes, both, answer, Gives}
use Rattle.editor.specs.Told.{volumes_of, StepTold}
use Rattle.promises.specs.Seen.{at}

-- what an outcome leaves in the two volumes
untouched : (o : Outcome) (vs : List ℤ) → 0 < code (answer o) → volumes_of o vs ≡ vs
unfolding code answer volumes_of
untouched (refused k p) vs some = refl
untouched (accepted t w v) vs some = let z : ⊥ = omega arith in absurd z

written : (o : Outcome) (vs : List ℤ) → length vs ≡ 2 → (w v : ℤ) → volumes (answer o) ≡ both w v
    → (at (volumes_of o vs) 0 ≡ w) × (at (volumes_of o vs) 1 ≡ v)
unfolding answer volumes volumes_of
written (refused k p) vs two w v is = let z : ◌≡◌ {A = ℕ} 0 1 = cc in let f : ⊥ = omega arith in absurd f
written (accepted t x y) vs two w v is =
    let p : x ≡ w = cc in let q : y ≡ v = cc in let first = set vs 0 x in let size = length-set vs 0 x in (
      (get_or-set_other first 1 0 y (pos 0) (λ d. let z : ⊥ = omega arith in z) ∙ get_or-set_same vs 0 x (pos 0) (omega arith) ∙ p),
      (get_or-set_same first 1 y (pos 0) (omega arith) ∙ q),
    )

module _ {o : Outcome} {r : ℕ} {old new vs vs' : List ℤ} {ps ps' : List ℕ} (g : StepTold o r old new vs vs' ps ps') where
  -- the answer and the table
  pub gave : Gives o (answer o) old new
  gave = record { says = refl; number = g.listed; table = g.table }

  -- what is so of the answer's number is so of r, and the other way round
  pub onto : (P : ℕ → Type 0) → P (code (answer o)) → P r
  onto P x = subst P (sym g.number) x

  pub over : (P : ℕ → Type 0) → P r → P (code (answer o))
  over P x = subst P g.number x

  -- the place that is written
  pub place_is : length ps ≡ 1 → get_or ps' 0 0 ≡ placed (answer o)
  place_is one = ap (λ (x : List ℕ). get_or x 0 0) g.place ∙ get_or-set_same ps 0 (placed (answer o)) 0 (omega arith)

  -- the volumes that a refusal, and an accepted step, leave
  pub volumes_kept : 0 < r → vs' ≡ vs
  volumes_kept some = g.crossed ∙ untouched o vs (over (λ k. 0 < k) some)

  pub volumes_are : length vs ≡ 2 → (w v : ℤ) → volumes (answer o) ≡ both w v → (at vs' 0 ≡ w) × (at vs' 1 ≡ v)
  volumes_are two w v is = let k = written o vs two w v is in
      (ap (λ (x : List ℤ). at x 0) g.crossed ∙ k.0, ap (λ (x : List ℤ). at x 1) g.crossed ∙ k.1)

  -- so its answer has what was written
  pub volumes_told : length vs ≡ 2 → (w v : ℤ) → volumes (answer o) ≡ both w v → volumes (answer o) ≡ both (at vs' 0) (at vs' 1)
  volumes_told two w v is = let k = volumes_are two w v is in let x = sym k.0 in let y = sym k.1 in is ∙ (λ i. both (x i) (y i))
