-- No depth falls below nought: the law of a row of faces, and what finishing makes of a mean that is not below nought.
-- Assumes nothing.
use Rattle.std.specs.Prelude.{◌≡◌, refl, cond, ℕ, suc, ◌<◌, ℤ, neg_ℤ, ◌+ℤ◌, ◌-ℤ◌, ◌≤ℤ◌, ◌<ℤ◌}
use Rattle.std.proofs.Common.{sym, subst, arith}
use Rattle.std.proofs.Math.IntN.{pos}
use Rattle.std.specs.Int.Signed.{quot_z, lt_z}
use Rattle.whole.specs.Flags.{cond_ind}
use Rattle.whole.specs.Parts.{of_le, le_refl}
use Rattle.whole.specs.Difference.{at, lit, ◌⊞◌, ◌⊟◌, ⊖, ◌⊠◌, le!, le?}
use Rattle.whole.specs.Quotient.{halves}
use Rattle.whole.specs.Tests.{lt_no}
use Rattle.tables.specs.Cells.{Cell}
use Rattle.rules.specs.Lawful.{Lawful}
use Rattle.rules.specs.Shown.{cross_at, volume}
use Rattle.rules.specs.Reach.{Reach, Call, State, Bed, under, z0, z1, h0, h1, hl, hr, side_l, side_r}
use Rattle.rules.specs.Stage.{shown, face_right, face_at, update, stage}
use Rattle.rules.specs.Finishing.{limit, clipped, cut, dried, finish}
use Rattle.rules.specs.Step.{rubbed, rubbed_cell, stage_one, half, carry, joined_cell, joined, next}
use Rattle.rules.proofs.Laws.Shown.{InTime, SoundRow, keeps}
use Rattle.rules.specs.Laws.Agree.{Same}
use Rattle.rules.proofs.Laws.Ends.{left_end_takes, right_end_takes}

-- what a call's numbers satisfy
pub record Fine (r : Reach) (c : Call) : Type 0 where
  pub dx : pos 0 <ℤ r.dx
  pub dt : pos 0 ≤ℤ c.dt
  pub jump : pos 0 ≤ℤ c.jump

-- ---- the depths of a state
pub record Nonneg (b : Bed) (x : Cell) : Type 0 where
  pub left : pos 0 ≤ℤ hl b x
  pub right : pos 0 ≤ℤ hr b x

-- no face depth is below nought
abbrev pub Wet : Reach → State → Type 0
Wet r s = (i : ℕ) → i < r.n → Nonneg (under r i) (s i)

pub wet_same : (r : Reach) (s t : State) → Same r t s → Wet r s → Wet r t
wet_same r s t e w i l = subst (Nonneg (under r i)) (sym (e i l)) (w i l)

-- nor then the mean, of which they are two halves
pub mean≥0 : (b : Bed) (x : Cell) → Nonneg b x → pos 0 ≤ℤ h0 b x
unfolding hl hr
mean≥0 b x n =
    let m = h0 b x in
    let d = h1 b x in
    le! (lit 0) (at m) (omega (arith, le? (lit 0) (at m ⊟ at d) n.left, le? (lit 0) (at m ⊞ at d) n.right))

-- its row is sound: it shows no depth below nought, and no end takes more than its cell has
sound : (r : Reach) → Lawful r.face → (c : Call) (s : State) → Wet r s → SoundRow (shown r c s)
unfolding side_l side_r
sound r law c s w = record {
  law = law;
  left = left_end_takes r.face law c.dry c.left;
  right = right_end_takes r.face law c.dry c.right;
  to_left = λ i l. (w i l).left;
  to_right = λ i l. (w i l).right;
}

-- at every face 2·dt·S is at most 4096·dx
abbrev pub Brief : Reach → Call → State → Type 0
Brief r c s = (i : ℕ) → i < suc r.n → InTime r.dx c.dt (face_at r c s i)

-- ---- a stage: the two depths that a cell shows come to twice its mean
module _ (r : Reach) (law : Lawful r.face) (c : Call) (ok : Fine r c) (s : State) (w : Wet r s) (t : Brief r c s) where
  pub stage_mean : (i : ℕ) → i < r.n
      → pos 0 ≤ℤ (h0 (under r i) (s i) +ℤ volume r.dx c.dt (face_at r c s i) -ℤ volume r.dx c.dt (face_right r c s i))
  unfolding side_l side_r hl hr
  stage_mean i l = let m = h0 (under r i) (s i) in let d = h1 (under r i) (s i) in
      keeps (shown r c s) (sound r law c s w) r.dx c.dt ok.dx ok.dt t i l m
      (le! (at m ⊟ at d ⊞ (at m ⊞ at d)) (lit 2 ⊠ at m) (omega arith))

-- ---- finishing
pub clipped_most : (m x : ℤ) → pos 0 ≤ℤ m → clipped m x ≤ℤ m
unfolding clipped
clipped_most m x h = cond_ind (lt_z m x) m (cond (lt_z x (neg_ℤ m)) (neg_ℤ m) x) (λ z. z ≤ℤ m) (λ e. le_refl m)
    (λ e. cond_ind (lt_z x (neg_ℤ m)) (neg_ℤ m) x (λ z. z ≤ℤ m) (λ d. le! (⊖ (at m)) (at m) (omega (arith, of_le h))) (λ d. lt_no m x e))

pub clipped_least : (m x : ℤ) → pos 0 ≤ℤ m → neg_ℤ m ≤ℤ clipped m x
unfolding clipped
clipped_least m x h =
    cond_ind (lt_z m x) m (cond (lt_z x (neg_ℤ m)) (neg_ℤ m) x) (λ z. neg_ℤ m ≤ℤ z) (λ e. le! (⊖ (at m)) (at m) (omega (arith, of_le h)))
    (λ e. cond_ind (lt_z x (neg_ℤ m)) (neg_ℤ m) x (λ z. neg_ℤ m ≤ℤ z) (λ d. le_refl (neg_ℤ m)) (λ d. lt_no x (neg_ℤ m) d))

-- the mean stays, and the slope lies within it
pub finish_mean : (r : Reach) (c : Call) (s : State) (i : ℕ) → (finish r c s i).e0 ≡ (s i).e0
unfolding finish dried cut limit
finish_mean r c s i = refl

pub finish_wet : (r : Reach) (c : Call) (s : State) (i : ℕ) → pos 0 ≤ℤ h0 (under r i) (s i) → Nonneg (under r i) (finish r c s i)
unfolding finish dried cut limit hl hr h0 h1
finish_wet r c s i h = record {
  left = le! (lit 0) (at m ⊟ (at k ⊞ at b ⊟ at b)) (omega (arith, le? (at k) (at m) (clipped_most m x h)));
  right = le! (lit 0) (at m ⊞ (at k ⊞ at b ⊟ at b)) (omega (arith, le? (⊖ (at m)) (at k) (clipped_least m x h)));
}
  where
    m : ℤ
    m = h0 (under r i) (s i)

    x : ℤ
    x = h1 (under r i) (limit r c s i)

    k : ℤ
    k = clipped m x

    b : ℤ
    b = z1 (under r i)

-- ---- the step
pub rubbed_wet : (r : Reach) (c : Call) (s : State) → Wet r s → Wet r (rubbed r c s)
unfolding rubbed rubbed_cell hl hr h0 h1
rubbed_wet r c s w i l = record { left = (w i l).left; right = (w i l).right }

module _ (r : Reach) (law : Lawful r.face) (c : Call) (ok : Fine r c) (s : State) (w : Wet r s) (t : Brief r c (rubbed r c s)) where
  pub stage_one_mean : (i : ℕ) → i < r.n → pos 0 ≤ℤ h0 (under r i) (stage r c (rubbed r c s) i)
  unfolding stage update h0
  stage_one_mean i l =
      let a = (rubbed r c s i).e0 in
      let b = z0 (under r i) in
      let x = volume r.dx c.dt (face_at r c (rubbed r c s) i) in
      let y = volume r.dx c.dt (face_right r c (rubbed r c s) i) in
      le! (lit 0) (at a ⊞ at x ⊟ at y ⊟ at b)
      (omega (arith, le? (lit 0) (at a ⊟ at b ⊞ at x ⊟ at y) (stage_mean r law c ok (rubbed r c s) (rubbed_wet r c s w) t i l)))

  -- after stage one
  pub stage_one_wet : Wet r (stage_one r c s)
  unfolding stage_one
  stage_one_wet i l = finish_wet r c (stage r c (rubbed r c s)) i (stage_one_mean i l)

  module _ (t' : Brief r c (stage_one r c s)) (i : ℕ) (l : i < r.n) where
    -- stage two's mean is not below nought either
    later : pos 0 ≤ℤ ((rubbed r c s i).e0 +ℤ volume r.dx c.dt (face_at r c (rubbed r c s) i) -ℤ volume r.dx c.dt
        (face_right r c (rubbed r c s) i) -ℤ z0 (under r i)
        +ℤ volume r.dx c.dt (face_at r c (stage_one r c s) i) -ℤ volume r.dx c.dt (face_right r c (stage_one r c s) i))
    unfolding stage_one finish dried cut limit stage update h0
    later = stage_mean r law c ok (stage_one r c s) stage_one_wet t' i l

    pub joined_mean : pos 0 ≤ℤ h0 (under r i) (joined r c s i)
    unfolding joined joined_cell carry half rubbed rubbed_cell h0 cross_at
    joined_mean =
        let a = (rubbed r c s i).e0 in let b = z0 (under r i) in
        let x = volume r.dx c.dt (face_at r c (rubbed r c s) i) in let y = volume r.dx c.dt (face_right r c (rubbed r c s) i) in
        let x' = volume r.dx c.dt (face_at r c (stage_one r c s) i) in
        let y' = volume r.dx c.dt (face_right r c (stage_one r c s) i) in
        let now : pos 0 ≤ℤ (a -ℤ b) = mean≥0 (under r i) (s i) (w i l) in
        let k : pos 0 ≤ℤ (a -ℤ b +ℤ quot_z (x +ℤ x') (pos 2) -ℤ quot_z (y +ℤ y') (pos 2)) =
        halves (a -ℤ b) (x +ℤ x') (y +ℤ y') now
        (le! (lit 0) (at a ⊟ at b ⊞ (at a ⊟ at b) ⊞ (at x ⊞ at x') ⊟ (at y ⊞ at y'))
        (omega (arith, le? (lit 0) (at a ⊟ at b) now, le? (lit 0) (at a ⊞ at x ⊟ at y ⊟ at b ⊞ at x' ⊟ at y') later))) in
        let p = quot_z (x +ℤ x') (pos 2) in let q = quot_z (y +ℤ y') (pos 2) in
        le! (lit 0) (at a ⊞ at p ⊟ at q ⊟ at b) (omega (arith, le? (lit 0) (at a ⊟ at b ⊞ at p ⊟ at q) k))

  -- the end state
  pub next_wet : Brief r c (stage_one r c s) → Wet r (next r c s)
  unfolding next
  next_wet t' i l = finish_wet r c (joined r c s) i (joined_mean t' i l)
