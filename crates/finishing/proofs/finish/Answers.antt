-- What passed the test is finished cell by cell; what did not is left alone.
use mathlib.Core.Path.{refl, sym, ◌∙◌, ap}
use mathlib.Core.Bool.{not}
use lib.ListN.{length}
use Rattle.whole.specs.Flags.{clash}
use Rattle.finishing.specs.Laws.Workable.{fit_works}
use Rattle.finishing.proofs.finish.Goals as goal

pub returns-then-is_unfit : goal.returns-then-is_unfit
returns-then-is_unfit c = record { works = ap not (sym c.if-is_unfit.true ∙ c.is_unfit.ensures); filled = λ e. clash e; kept = λ e. refl }

pub fill-requires : goal.fill-requires
fill-requires c =
    let p = c.args in
    let w = fit_works p.reach p.call p.bed.now p.u.now (length p.t.now) (sym c.is_unfit.ensures ∙ c.if-is_unfit.false) in
    record { n_in_bounds = (w.lent, w.placed); all_unfinished = w.cells }

pub returns : goal.returns
returns c =
    record {
      works = ap not (sym c.if-is_unfit.false ∙ c.is_unfit.ensures);
      filled = λ y. c.fill.ensures;
      kept = λ e. clash e;
    }
