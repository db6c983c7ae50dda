-- What the public function says leaves one answer and one content of the lent table.
-- Assumes nothing.
use Rattle.std.specs.Prelude.{◌≡◌, List, ℤ, Ok, Err}
use Rattle.std.proofs.Common.{sym, ◌∙◌, ap, arith}
use Rattle.rules.specs.Reach.{Reach, Call, State}
use Rattle.rules.specs.Found.{Found}
use Rattle.stage.specs.Worked.{Stopped, Went, Says}
use Rattle.reach.specs.Gives.{Answer, one_refused}

module _ (r : Reach) (c : Call) (s : State) (k : Found) (old new new' : List ℤ) where
  never : {m : Found} {a b : ℤ} {old new new' : List ℤ} {P : Type 0} → Stopped k m old new → Went r c s k a b new' → P
  never p q = let e = ap (λ (f : Found). f.no) p.found in let z : ⊥ = omega (arith, e, p.some, q.none) in absurd z

  pub one_said : (w v : Answer) → Says r c s k w old new → Says r c s k v old new' → (w ≡ v) × (new ≡ new')
  one_said (Err d) (Err e) p q = (
    let same = p.found ∙ sym q.found in
        ap Err (one_refused d e (ap (λ (f : Found). f.no) same) (ap (λ (f : Found). f.place) same)),
    p.kept ∙ sym q.kept,
  )
  one_said (Err d) (Ok b) p q = never p q
  one_said (Ok a) (Err d) p q = never q p
  one_said (Ok a) (Ok b) p q = (
    let e = p.left ∙ sym q.left in let f = p.right ∙ sym q.right in λ i. Ok (record { first = e i; last = f i }),
    p.cells ∙ sym q.cells,
  )
