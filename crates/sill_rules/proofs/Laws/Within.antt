-- No place lies past the last face of the reach, and so none past 1,024.
-- Assumes nothing.
use Rattle.std.proofs.Common.{ap}
use Prim.Native.Nat.{suc, ◌≤◌}
use native.Mathlib.Omega.{arith}
use Rattle.std.specs.Prelude.{length}
use Rattle.whole.specs.Flags.{by}
use Rattle.rules.specs.Refusals.{spot}
use Rattle.rules.specs.Found.{Found}
use Rattle.rules.proofs.Laws.Within.{Within, spot_within}
use Rattle.sill_rules.specs.Refusals.{early, checks}
use Rattle.sill_rules.specs.Lent.{Lent, cells_of, misfits, all_checks}
use Rattle.sill_rules.proofs.Laws.Lengths.{fitted, first_found}

module _ (a : Lent) where
  pub all_within : Within (cells_of a) (all_checks a)
  unfolding all_checks checks early
  all_within = let n = cells_of a in let face : suc n ≤ suc n = omega arith in let cell : n ≤ suc n = omega arith in
      (omega arith, (omega arith, (cell, (cell, (cell, (cell, (face, (face, (cell, tt)))))))))

  pub place_most : spot (all_checks a) ≤ 1024
  place_most = by (misfits a)
      (λ e. let z = ap (λ (k : Found). k.place) (first_found a e) in omega arith)
      (λ e. let w = spot_within (cells_of a) (all_checks a) all_within in
      let f = (fitted (length a.now) a.room (length a.bed) (cells_of a) e).most in omega arith)
