-- Where neither end is an inflow, a call is answered before E7 as it was before E4, when an end had no Q.
-- Assumes nothing.
use Rattle.std.specs.Prelude.{◌≡◌, refl, false, ◌||◌, ℕ, zero, suc, eqb, ltb, pos}
use Rattle.std.proofs.Common.{sym, arith}
use borrow.Author.Tests.{lt-ltb, ne_eqb}
use Rattle.whole.specs.Flags.{clash}
use Rattle.rules.specs.Limits.{longest_cell, longest_step, largest_jump}
use Rattle.rules.specs.Ends as ends
use Rattle.rules.specs.Refusals.{any, outside, bad_dry, bad_end, fast_inflow}
use Rattle.rules.specs.Refusals as checks
use Rattle.rules.specs.Lent.{reach_of, call_of}
use Rattle.before.specs.E7 as E7
use Rattle.before.specs.E4.{left_end, right_end, bad_call, parts, Lent, with_no_inflow, step_of}
use Rattle.before.proofs.Laws.Parts.{AsInForce, as_before}
use Rattle.before.proofs.Laws.E6 as E6

-- of an end without Q that is no inflow, check 2 sees the kind alone
bad_kind : (k : ℕ) → eqb k 2 ≡ false → ltb 1 k ≡ bad_end (record { kind = k; q = 0 })
unfolding bad_end any
bad_kind zero p = refl
bad_kind (suc zero) p = refl
bad_kind (suc (suc zero)) p = clash (sym p)
bad_kind (suc (suc (suc k))) p = rw (lt-ltb 2 (suc (suc (suc k))) (omega arith), lt-ltb 1 (suc (suc (suc k))) (omega arith))

module _ (a : Lent) (f : a.left ≡ 2 → ⊥) (g : a.right ≡ 2 → ⊥) where
  pub bad_kinds : bad_call (reach_of (with_no_inflow a)) (call_of (with_no_inflow a))
      ≡ checks.bad_call (reach_of (with_no_inflow a)) (call_of (with_no_inflow a))
  unfolding checks.bad_call bad_call any
  bad_kinds =
      let p = bad_kind a.left (ne_eqb a.left 2 f) in let q = bad_kind a.right (ne_eqb a.right 2 g) in
      λ j.
      outside (pos 1) longest_cell (pos a.dx) || (outside (pos 1) longest_step (pos a.dt)
      || (outside (pos 0) largest_jump (pos a.jump) || (bad_dry (pos a.dry) || (p j || (q j || false)))))

  pub as_in_force : AsInForce parts (reach_of (with_no_inflow a)) (call_of (with_no_inflow a))
  unfolding ends.left_end ends.right_end left_end right_end fast_inflow
  as_in_force =
      let k = E6.as_in_force (reach_of (with_no_inflow a)) (call_of (with_no_inflow a)) in
      let p = ne_eqb a.left 2 f in let q = ne_eqb a.right 2 g in
      record {
        side_l = k.side_l;
        side_r = k.side_r;
        left = λ x. rw p;
        right = λ x. rw q;
        fast_left = λ x. rw p;
        fast_right = λ x. rw q;
        update = k.update;
      }

  -- the same number, or the same table and volumes
  pub no_inflow : E7.step_of (with_no_inflow a) ≡ step_of a
  no_inflow = as_before bad_call parts (with_no_inflow a) bad_kinds as_in_force
