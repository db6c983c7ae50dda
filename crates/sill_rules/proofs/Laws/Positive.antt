-- No depth falls below nought, by the law of a row of faces: neither depth that a cell shows is more than its own, as the bed that counts
-- at a face is not below the cell's.
-- Assumes nothing.
use Rattle.std.specs.Prelude.{◌≡◌, refl, ℕ, zero, suc, ◌<◌, eqb, ℤ, pos, ◌+ℤ◌, ◌-ℤ◌, ◌≤ℤ◌, ◌<ℤ◌}
use Rattle.std.proofs.Common.{sym, subst, arith}
use Rattle.whole.specs.Flags.{cond_ind}
use Rattle.whole.specs.Parts.{of_le, le_refl}
use Rattle.whole.specs.Difference.{at, lit, ◌⊞◌, ◌⊟◌, ◌⊠◌, le!, le?}
use Rattle.whole.specs.Choice.{max_l, max_r, max_least}
use Rattle.tables.specs.Pools.{Pool}
use Rattle.rules.specs.Limits.{least_dry}
use Rattle.rules.specs.Lawful.{Lawful}
use Rattle.rules.specs.Shown.{volume}
use Rattle.rules.proofs.Laws.Shown.{InTime, SoundRow, keeps}
use Rattle.rules.proofs.Laws.Outer.{left_outer_takes, right_outer_takes}
use Rattle.sill_rules.specs.Reach.{Reach, Call, State, depth, higher, crest_left, crest_right, over, hl, hr}
use Rattle.sill_rules.specs.Step.{rubbed_pool, rubbed, shown, face_right, face_at, update, stage, dried_pool, dried, next}
use Rattle.sill_rules.proofs.Laws.Agree.{Same}

-- what a call's numbers satisfy
pub record Fine (r : Reach) (c : Call) : Type 0 where
  pub dx : pos 0 <ℤ r.dx
  pub dt : pos 0 ≤ℤ c.dt
  pub dry : least_dry ≤ℤ c.dry

-- no depth of a state is below nought
abbrev pub Wet : Reach → State → Type 0
Wet r s = (i : ℕ) → i < r.n → pos 0 ≤ℤ depth (r.bed i) (s i)

pub wet_same : (r : Reach) (s t : State) → Same r t s → Wet r s → Wet r t
wet_same r s t e w i l = subst (λ (x : Pool). pos 0 ≤ℤ depth (r.bed i) x) (sym (e i l)) (w i l)

-- at every face 2·dt·S is at most 4096·dx
abbrev pub Brief : Reach → Call → State → Type 0
Brief r c s = (i : ℕ) → i < suc r.n → InTime r.dx c.dt (face_at r c s i)

-- ---- the depths that a cell shows
-- over any bed none is below nought, and over one not below the cell's own it is at most the cell's depth
pub over≥0 : (z : ℤ) (x : Pool) → pos 0 ≤ℤ over z x
unfolding over
over≥0 z x = max_l (pos 0) (x.e -ℤ z)

over_most : (b z : ℤ) (x : Pool) → b ≤ℤ z → pos 0 ≤ℤ depth b x → over z x ≤ℤ depth b x
unfolding over depth
over_most b z x k h = max_least (pos 0) (x.e -ℤ z) (x.e -ℤ b) h (le! (at x.e ⊟ at z) (at x.e ⊟ at b) (omega (arith, of_le k)))

left_above : (r : Reach) (i : ℕ) → r.bed i ≤ℤ crest_left r i
unfolding crest_left higher
left_above r zero = le_refl (r.bed zero)
left_above r (suc i) = max_r (r.bed i) (r.bed (suc i))

right_above : (r : Reach) (i : ℕ) → r.bed i ≤ℤ crest_right r i
unfolding crest_right higher
right_above r i = cond_ind (eqb (suc i) r.n) (r.bed i) (higher r i) (λ z. r.bed i ≤ℤ z)
    (λ e. le_refl (r.bed i)) (λ e. max_l (r.bed i) (r.bed (suc i)))

module _ (r : Reach) (s : State) (w : Wet r s) (i : ℕ) (l : i < r.n) where
  pub left_shown : hl r s i ≤ℤ depth (r.bed i) (s i)
  left_shown = over_most (r.bed i) (crest_left r i) (s i) (left_above r i) (w i l)

  pub right_shown : hr r s i ≤ℤ depth (r.bed i) (s i)
  right_shown = over_most (r.bed i) (crest_right r i) (s i) (right_above r i) (w i l)

-- ---- a stage
-- the row is sound whatever the state: a reconstructed depth is never below nought, and no end takes more than its cell shows
sound : (r : Reach) → Lawful r.face → (c : Call) (s : State) → SoundRow (shown r c s)
sound r law c s = record {
  law = law;
  left = left_outer_takes r.face law c.left;
  right = right_outer_takes r.face law c.right;
  to_left = λ i l. over≥0 (crest_left r i) (s i);
  to_right = λ i l. over≥0 (crest_right r i) (s i);
}

module _ (r : Reach) (law : Lawful r.face) (c : Call) (ok : Fine r c) (s : State) (w : Wet r s) where
  kept : Brief r c s → (i : ℕ) → i < r.n
      → pos 0 ≤ℤ (depth (r.bed i) (s i) +ℤ volume r.dx c.dt (face_at r c s i) -ℤ volume r.dx c.dt (face_right r c s i))
  kept t i l = let m = depth (r.bed i) (s i) in let a = hl r s i in let b = hr r s i in
      keeps (shown r c s) (sound r law c s) r.dx c.dt ok.dx ok.dt t i l m
      (le! (at a ⊞ at b) (lit 2 ⊠ at m) (omega (arith, of_le (left_shown r s w i l), of_le (right_shown r s w i l))))

  stage_wet : Brief r c s → Wet r (stage r c s)
  unfolding stage update depth
  stage_wet t i l =
      let e = (s i).e in let z = r.bed i in
      let x = volume r.dx c.dt (face_at r c s i) in let y = volume r.dx c.dt (face_right r c s i) in
      le! (lit 0) (at e ⊞ at x ⊟ at y ⊟ at z) (omega (arith, le? (lit 0) (at e ⊟ at z ⊞ at x ⊟ at y) (kept t i l)))

-- ---- the step: friction and drying leave the depths as they are
pub rubbed_depth : (r : Reach) (c : Call) (s : State) (i : ℕ) → depth (r.bed i) (rubbed r c s i) ≡ depth (r.bed i) (s i)
unfolding rubbed rubbed_pool depth
rubbed_depth r c s i = refl

pub rubbed_wet : (r : Reach) (c : Call) (s : State) → Wet r s → Wet r (rubbed r c s)
rubbed_wet r c s w i l = subst (λ (h : ℤ). pos 0 ≤ℤ h) (sym (rubbed_depth r c s i)) (w i l)

dried_wet : (r : Reach) (c : Call) (s : State) → Wet r s → Wet r (dried r c s)
unfolding dried dried_pool depth
dried_wet r c s w = w

pub next_wet : (r : Reach) → Lawful r.face → (c : Call) → Fine r c → (s : State) → Wet r s → Brief r c (rubbed r c s)
    → Wet r (next r c s)
unfolding next
next_wet r law c ok s w t =
    dried_wet r c (stage r c (rubbed r c s)) (stage_wet r law c ok (rubbed r c s) (rubbed_wet r c s w) t)
