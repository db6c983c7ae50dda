-- What a lent state that passed the checks before the stages is.
-- Assumes nothing.
use Rattle.std.specs.Prelude.{◌≡◌, refl, false, not, List, ℕ, suc, ◌%◌, ◌<◌, eqb, get_or, ℤ, pos, nat_abs, ◌≤ℤ◌}
use Rattle.std.proofs.Common.{ap, arith}
use Rattle.whole.specs.Flags.{or_l}
use Rattle.whole.specs.Parts.{Within, b_nonneg, le_trans, nat_nonneg}
use Rattle.tables.specs.Some.{some}
use Rattle.tables.proofs.Some.{some_none}
use Rattle.rules.specs.Limits.{highest_bed}
use Rattle.rules.specs.Reach.{State, bed_at}
use Rattle.rules.specs.Refusals.{outside, bad_bed, bad_rough, off_cell, fast_cell, applies, Clear}
use Rattle.rules.proofs.Laws.Inside.{above_least, below_most}
use Rattle.rules.proofs.Laws.Verdicts.{check_at, clear_at}
use Rattle.rules.proofs.Laws.Alike.{Alike, end, also}
use Rattle.reach.specs.Ranges.{UpTo, Grounds}
use Rattle.stage.specs.Ranges.{Ranged, Slows}
use Rattle.stage.specs.Says.{ready_checks}

-- ---- what a passed check gives
-- a number that is not outside a list whose least is not below nought
pub between : (a : ℤ) (m : ℕ) (z : ℤ) → pos 0 ≤ℤ a → outside a (pos m) z ≡ false → Within m z
between a m z h e = b_nonneg (le_trans h (above_least a (pos m) z e)) (below_most a (pos m) z e)

pub grounds : (n : ℕ) (bed : List ℤ) → some (λ i. bad_bed (get_or bed i (pos 0))) (suc n) ≡ false → Grounds bed n
unfolding bad_bed
grounds n bed e i l = record { zl = value i (omega arith); zr = value (suc i) (omega arith) }
  where
    value : (j : ℕ) → j < suc n → UpTo highest_bed (get_or bed j (pos 0))
    value j m = let z = get_or bed j (pos 0) in
        between (pos 0) 1048576 z (nat_nonneg 0)
        (or_l (outside (pos 0) highest_bed z) (not (eqb (nat_abs z % 2) 0)) (some_none (λ i. bad_bed (get_or bed i (pos 0))) (suc n) e j m))

pub ranged : (n : ℕ) (bed : List ℤ) (s : State) → Grounds bed n → some (λ i. off_cell (bed_at bed i) (s i)) n ≡ false → Ranged bed n s
ranged n bed s g e i l = record { grounded = g i l; range = some_none (λ i. off_cell (bed_at bed i) (s i)) n e i l }

slows : (dry : ℤ) (n : ℕ) (bed : List ℤ) (friction : List ℕ) (s : State) → some (λ i. bad_rough (pos (get_or friction i 0))) n ≡ false
    → some (λ i. fast_cell dry (bed_at bed i) (s i)) n ≡ false → Slows dry friction bed n s
unfolding bad_rough
slows dry n bed friction s e f i l =
    let passed = some_none (λ i. bad_rough (pos (get_or friction i 0))) n e i l in
    let w = between (pos 0) 200 (pos (get_or friction i 0)) (nat_nonneg 0) passed in
    record { rough = w.abs; speed = some_none (λ i. fast_cell dry (bed_at bed i) (s i)) n f i l }

-- ---- a lent state that is ready
module _ (dry : ℤ) (n : ℕ) (bed : List ℤ) (friction : List ℕ) (s : State) (clear : Clear (ready_checks dry n bed friction s)) where
  passed : (i : ℕ) → applies (check_at (ready_checks dry n bed friction s) i) ≡ false
  passed = clear_at (ready_checks dry n bed friction s) clear

  pub lent_ranged : Ranged bed n s
  lent_ranged = ranged n bed s (grounds n bed (passed 0)) (passed 2)

  pub lent_slow : Slows dry friction bed n s
  lent_slow = slows dry n bed friction s (passed 1) (passed 3)

-- states that agree in the reach pass the same checks
pub ready_same : (dry : ℤ) (n : ℕ) (bed : List ℤ) (friction : List ℕ) (s t : State) → ((i : ℕ) → i < n → s i ≡ t i)
    → Alike (ready_checks dry n bed friction s) (ready_checks dry n bed friction t)
ready_same dry n bed friction s t e = also (λ i l. refl) (also (λ i l. refl)
    (also (λ i l. ap (off_cell (bed_at bed i)) (e i l)) (also (λ i l. ap (fast_cell dry (bed_at bed i)) (e i l)) end)))
