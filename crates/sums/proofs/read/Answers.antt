-- What is read is what the rules say of the cut.
use Rattle.std.proofs.Common.{◌∙◌, ap₂, sym, List, [], ◌∷◌, ◌+◌, ◌-◌, ◌+ℤ◌, arith}
use Rattle.whole.specs.Machine.{v, ◌⊕◌, Entry, entry, value}
use Rattle.rules.specs.StateAndBed.{cells_over}
use Rattle.rules.specs.Laws.Blocks.{Cut}
use Rattle.rules.proofs.Laws.Sums.{cut_reading}
use Rattle.sums.specs.Laws.Adding.{added_most}
use Rattle.sums.proofs.read.Goals as goal

pub returns : goal.returns
returns c =
    let p = c.args in let s = c.split_between-s.result in
    let cut : Cut (cells_over p.bed.now) p.a p.b s.head s.first s.last s.tail = rw (← c.cells_over.ensures) c.split_between-s.ensures in
    let whole = c.added-whole in let before = c.depths-before in let behind = c.depths-behind in let fit = c.requires.0 in
    let env : List Entry =
    entry (record { sfits = whole.type_inv }) (added_most whole.ensures (omega (arith, cut.most, fit.most)))
    ∷ entry (record { sfits = before.type_inv }) (added_most before.ensures (omega (arith, cut.inside, cut.behind, c.requires, fit.most)))
    ∷ entry (record { sfits = behind.type_inv }) (added_most behind.ensures (omega (arith, c.requires, fit.most)))
    ∷ [] in
    let depth = value env (v 0 ⊕ (v 1 ⊕ v 2)) tt ∙ ap₂ ◌+ℤ◌ whole.ensures.is (ap₂ ◌+ℤ◌ before.ensures.is behind.ensures.is) in
    (λ i. record { water = depth i; cells = s.head - p.a + (p.b - s.tail); blocks = s.last - s.first })
    ∙ sym (cut_reading p.bed.now p.state.now p.sums.now cut)
