use Rattle.std.proofs.Common.{◌∙◌, [], ◌∷◌, cond, arith}
use Rattle.whole.specs.Machine.{back, back64}
use Rattle.rules.specs.Finishing.{limited, limit}
use Rattle.finishing.specs.UnfinishedTable.{reach_of, state_of}
use Rattle.finishing.proofs.unfinished.UnfinishedTable.limit.Goals as goal

pub returns : goal.returns
unfolding limit
returns c =
    let r = reach_of c.args.self in let u = state_of c.args.self in let i = c.args.i in let x = u i in
    let e1 = back {z = x.e1} (omega arith) in let q1 = back {z = x.q1} (omega arith) in
    λ ρ. let told = c.is_limited-limiting.ensures ρ in
    λ k. back {z = x.e0} (omega arith) k
    ∷ back64 c.limited-e1.type_inv (c.limited-e1.ensures ∙ (λ j. cond (told j) (limited r (λ n. (u n).e0) i (e1 j)) (e1 j))) k
    ∷ back {z = x.q0} (omega arith) k
    ∷ back64 c.limited-q1.type_inv (c.limited-q1.ensures ∙ (λ j. cond (told j) (limited r (λ n. (u n).q0) i (q1 j)) (q1 j))) k
    ∷ []
