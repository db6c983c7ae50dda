-- The four numbers of a cell, each as it was read in its column.
use mathlib.Core.List.{[], ◌∷◌}
use Rattle.whole.specs.Machine.{back64}
use Rattle.stage.proofs.lent.cell_of.Goals as goal

pub returns : goal.returns
returns c =
    let l4 = c.lent_number-q1 in let r3 = c.before in let l3 = r3.lent_number-q0 in let r2 = r3.before in
    let l2 = r2.lent_number-e1 in let l1 = r2.lent_number-e0 in
    let e0 = back64 l1.type_inv l1.ensures.0 in let e1 = back64 l2.type_inv l2.ensures.0 in
    let q0 = back64 l3.type_inv l3.ensures.0 in let q1 = back64 l4.type_inv l4.ensures.0 in (
      (λ k. e0 k ∷ e1 k ∷ q0 k ∷ q1 k ∷ []),
      record { e0 = l1.ensures.1; e1 = l2.ensures.1; q0 = l3.ensures.1; q1 = l4.ensures.1 },
    )
