-- What crosses the two ends over the step: nothing at a wall, and at any end at most 131,072 either way, half of the greatest depth.
-- Assumes nothing.
use Rattle.std.specs.Prelude.{◌≡◌, ℕ, ◌-◌, ◌<◌, ℤ, pos, ◌≤ℤ◌}
use Rattle.std.proofs.Common.{sym, ◌∙◌, ap}
use Rattle.std.proofs.Math.Path.{subst}
use native.Mathlib.Omega.{arith}
use Rattle.whole.specs.Parts.{Within, le_trans}
use Rattle.rules.specs.Limits.{deepest}
use Rattle.rules.specs.Face.{Flux}
use Rattle.rules.specs.Lawful.{Lawful}
use Rattle.rules.specs.Shown.{cross_at, volume}
use Rattle.rules.proofs.Laws.Shown.{InTime, none_volume, at_last}
use Rattle.rules.proofs.Laws.Outer.{left_outer_wall, right_outer_wall, left_outer_most, right_outer_most}
use Rattle.sill_rules.specs.Reach.{Reach, Call, State, depth, crest_left, crest_right, at_left, at_right}
use Rattle.sill_rules.specs.Step.{rubbed, shown, face_at, carry}
use Rattle.sill_rules.proofs.Laws.Positive.{Wet, over≥0, left_shown, right_shown, rubbed_depth, rubbed_wet}
use Rattle.sill_rules.proofs.Laws.Accepted.{Accepted, in_depth}

module _ (r : Reach) (law : Lawful r.face) (c : Call) (s : State) where
  -- the state after friction, and the last cell
  abbrev t : State
  t = rubbed r c s

  abbrev last : ℕ
  last = r.n - 1

  -- ---- a wall
  pub left_shut : c.left ≡ 0 → carry r c s 0 ≡ pos 0
  unfolding carry cross_at
  left_shut e = none_volume r.dx c.dt (face_at r c t 0) (left_outer_wall r.face law c.left e (at_left r c t 0))

  pub right_shut : 0 < r.n → c.right ≡ 0 → carry r c s r.n ≡ pos 0
  unfolding carry
  right_shut o e = none_volume r.dx c.dt (face_at r c t r.n)
      (ap (λ (f : Flux). f.F) (at_last (shown r c t) o) ∙ right_outer_wall r.face law c.right e (at_right r c t last))

  -- ---- an accepted call: each end shows no more than the depth of its cell, which friction leaves as it is
  module _ (o : 0 < r.n) (a : Accepted r c s) where
    wet : Wet r t
    wet = rubbed_wet r c s a.early.wet

    low : (i : ℕ) → i < r.n → depth (r.bed i) (t i) ≤ℤ deepest
    low i l = subst (λ (h : ℤ). h ≤ℤ deepest) (sym (rubbed_depth r c s i)) (in_depth r s a.now i l)

    pub left_most : Within 131072 (carry r c s 0)
    unfolding carry cross_at
    left_most = let ok = a.early.fine in
        left_outer_most r.face law c.left r.dx c.dt ok.dx ok.dt (at_left r c t 0)
        (over≥0 (crest_left r 0) (t 0)) (le_trans (left_shown r t wet 0 o) (low 0 o)) (a.early.brief 0 (omega arith))

    pub right_most : Within 131072 (carry r c s r.n)
    unfolding carry
    right_most = let ok = a.early.fine in let at = at_last (shown r c t) o in let m : last < r.n = omega arith in
        subst (λ (f : Flux). Within 131072 (volume r.dx c.dt f)) (sym at)
        (right_outer_most r.face law c.right r.dx c.dt ok.dx ok.dt (at_right r c t last)
        (over≥0 (crest_right r last) (t last)) (le_trans (right_shown r t wet last m) (low last m))
        (subst (InTime r.dx c.dt) at (a.early.brief r.n (omega arith))))
