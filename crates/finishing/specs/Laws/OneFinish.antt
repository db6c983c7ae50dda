-- What the public function says leaves one answer, and one content of the table.
-- Assumes nothing.
use Rattle.std.specs.Prelude.{◌≡◌, refl, List, [], ℕ, ℤ, pos, Result, Ok, Err}
use Rattle.std.proofs.Common.{sym, ◌∙◌}
use Rattle.whole.specs.Flags.{clash}
use Rattle.tables.specs.Rows.{one_filled}
use Rattle.reach.specs.declared.Reach.{Reach}
use Rattle.reach.specs.declared.Call.{Call}
use Rattle.finishing.specs.declared.unfit.Unfit.{Unfit}
use Rattle.finishing.specs.FinishedCell.{finished_cell}
use Rattle.finishing.specs.FinishSays.{FinishSays}

pub one_finish : (reach : Reach) (call : Call) (bed : List ℤ) (u : List (List ℤ)) (a b : Result Unit Unfit) (old new new' : List (List ℤ))
    → FinishSays reach call bed u a old new → FinishSays reach call bed u b old new' → (a ≡ b) × (new ≡ new')
one_finish reach call bed u (Ok x) (Ok y) old new new' p q =
    let smooth : ℕ → ℤ = λ i. pos 0 in
    let cells = finished_cell reach call bed u smooth in
    (refl, one_filled [] old new new' reach.n cells (p.filled refl smooth) (q.filled refl smooth))
one_finish reach call bed u (Err x) (Err y) old new new' p q = (refl, p.kept refl ∙ sym (q.kept refl))
one_finish reach call bed u (Ok x) (Err y) old new new' p q = clash (q.works ∙ sym p.works)
one_finish reach call bed u (Err x) (Ok y) old new new' p q = clash (p.works ∙ sym q.works)
