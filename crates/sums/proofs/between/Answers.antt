-- The lengths first, then the faces.
use Rattle.std.proofs.Common.{◌≡◌, ◌∙◌, sym, ap, true, false, length, ltb, arith}
use borrow.Author.Tests.{lt-ltb, le-ltb}
use Rattle.whole.specs.Flags.{or_true}
use Rattle.rules.specs.StateAndBed.{cells_over}
use Rattle.rules.specs.Sums.{answered}
use Rattle.rules.proofs.Laws.StateAndBed.{state_fits}
use Rattle.rules.proofs.Laws.Questions.{disordered, unanswered_sums, unanswered_state, unanswered_faces, all_answered}
use Rattle.sums.specs.Gives.{asked}
use Rattle.sums.specs.Answered.{tables_fit}
use Rattle.sums.proofs.between.Goals.{then-bad_sums-via-then-bad_sums, then-bad_sums-via-else-bad_sums+then-bad_state}
use Rattle.sums.proofs.between.Goals.{then-to-from-via-then-to-from, then-to-from-via-else-to-from+then-n-to}
use Rattle.sums.proofs.between.Goals as goal

pub returns-then-bad_sums : goal.returns-then-bad_sums
unfolding asked
returns-then-bad_sums c =
    let p = c.args in let n = c.cells_over-n.ensures in
    let misfit = rw n at c.bad_sums.ensures in
    sym (elim c.then-bad_sums.branch [
      | then-bad_sums-via-then-bad_sums w ↦ unanswered_sums p.bed.now p.state.now p.sums.now p.a p.b (sym misfit ∙ w.if-bad_sums.true)
      | then-bad_sums-via-else-bad_sums+then-bad_state w ↦
          unanswered_state p.bed.now p.state.now p.sums.now p.a p.b (sym misfit ∙ w.if-bad_sums.false)
          (sym (rw n at w.bad_state.ensures) ∙ w.if-bad_state.true)
    ])

pub returns-then-to-from : goal.returns-then-to-from
unfolding asked
returns-then-to-from c =
    let p = c.args in let n = c.cells_over-n.ensures in let bed = p.bed.now in
    let wrong : disordered bed p.state.now p.sums.now p.a p.b ≡ true = elim c.then-to-from.branch [
      | then-to-from-via-then-to-from w ↦ rw (lt-ltb _ _ w.if-to-from.true)
      | then-to-from-via-else-to-from+then-n-to w ↦
          rw (lt-ltb (cells_over bed) p.b (omega (arith, n, w.if-n-to.true))) (or_true (ltb p.b p.a))
    ] in
    let sums = sym (rw n at c.if-bad_sums.ensures) in let state = sym (rw n at c.if-bad_state.ensures) in
    sym (unanswered_faces bed p.state.now p.sums.now p.a p.b sums state wrong)

pub read-requires : goal.read-requires
read-requires c =
    let p = c.args in let n = c.cells_over-n.ensures in let bed = p.bed.now in
    let ok = state_fits (length p.state.now) (cells_over bed) (sym (rw n at c.if-bad_state.ensures)) in
    (tables_fit bed p.state.now p.sums.now ok (sym (rw n at c.if-bad_sums.ensures)), c.if-to-from.false, omega (arith, n, c.if-n-to.false))

pub returns : goal.returns
unfolding asked
returns c =
    let p = c.args in let n = c.cells_over-n.ensures in let bed = p.bed.now in
    let right : disordered bed p.state.now p.sums.now p.a p.b ≡ false =
    rw (le-ltb p.b p.a c.if-to-from.false, le-ltb (cells_over bed) p.b (omega (arith, n, c.if-n-to.false))) in
    let sums = sym (rw n at c.if-bad_sums.ensures) in let state = sym (rw n at c.if-bad_state.ensures) in
    ap answered c.read.ensures ∙ sym (all_answered bed p.state.now p.sums.now p.a p.b sums state right)
