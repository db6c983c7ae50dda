-- After the friction speeds have passed no face is too fast: a face has the speeds of its cells, and friction makes none faster. So of the
-- two checks numbered 6 the second refuses nothing.
-- Assumes nothing.
use Rattle.std.specs.Prelude.{◌≡◌, false, ℕ, zero, suc, ◌≤◌, ◌<◌, eqb, nat_abs}
use Rattle.std.proofs.Common.{arith}
use Rattle.std.proofs.Math.Nat as NatL
use Rattle.whole.specs.Flags.{by}
use Rattle.whole.specs.Choice.{not_beyond, within_past}
use Rattle.tables.specs.Some.{some}
use Rattle.tables.proofs.Some.{some_none, none_some}
use Rattle.rules.specs.Limits.{fastest}
use Rattle.rules.specs.Refusals.{past}
use Rattle.rules.proofs.Laws.Speeds.{speed_less}
use Rattle.rules.proofs.Laws.Friction.{after_size}
use Rattle.rules.proofs.Laws.Shown.{inside}
use Rattle.sill_rules.specs.Reach.{Reach, Call, State, depth, pace}
use Rattle.sill_rules.specs.Step.{rubbed_pool, rubbed}
use Rattle.sill_rules.specs.Refusals.{fast_pool, fast_friction, fast_face}
use Rattle.sill_rules.proofs.Laws.Positive.{Fine}

-- no side of a face is too fast where no cell is
slow_sides : (r : Reach) (c : Call) (s : State) → 0 < r.n → ((i : ℕ) → i < r.n → past fastest (pace c.dry (r.bed i) (s i)) ≡ false)
    → some (fast_face r c s) (suc r.n) ≡ false
unfolding fast_face
slow_sides r c s o slow = none_some (fast_face r c s) (suc r.n) at
  where
    at : (i : ℕ) → i < suc r.n → fast_face r c s i ≡ false
    at zero l = slow zero o
    at (suc i) l = let m : i < r.n = omega arith in
        rw (slow i m) (by (eqb (suc i) r.n) (λ d. rw d) (λ d. rw d (slow (suc i) (inside i r.n m d))))

module _ (r : Reach) (c : Call) (ok : Fine r c) (s : State) where
  -- friction leaves a speed no larger
  pub rubbed_pace : (i : ℕ) → nat_abs (pace c.dry (r.bed i) (rubbed r c s i)) ≤ nat_abs (pace c.dry (r.bed i) (s i))
  unfolding pace rubbed rubbed_pool depth
  rubbed_pace i = let q = (s i).q in let h = depth (r.bed i) (s i) in
      speed_less c.dry (rubbed r c s i).q q h (after_size c.dt c.dry (c.rough i) h q q ok.dt ok.dry)

  module _ (passed : some (fast_friction r c s) r.n ≡ false) where
    pub slow_cells : (i : ℕ) → i < r.n → past fastest (pace c.dry (r.bed i) (rubbed r c s i)) ≡ false
    unfolding fast_friction fast_pool
    slow_cells i l =
        let before = within_past 131072 (pace c.dry (r.bed i) (s i)) (some_none (fast_friction r c s) r.n passed i l) in
        not_beyond 131072 (pace c.dry (r.bed i) (rubbed r c s i)) (record { abs = NatL.le_trans (rubbed_pace i) before.abs })

    pub slow_faces : 0 < r.n → some (fast_face r c (rubbed r c s)) (suc r.n) ≡ false
    slow_faces o = slow_sides r c (rubbed r c s) o slow_cells
