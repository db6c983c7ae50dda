-- The face rule is lawful: what the reach relies on is true of it. And no mass crosses a wall, whatever lawful rule a reach has.
-- Assumes nothing.
use Rattle.std.specs.Prelude.{◌≡◌, refl, true, false, cond, ◌&&◌, ◌⊎◌, ℤ, neg_ℤ, ◌+ℤ◌, ◌-ℤ◌, ◌*ℤ◌, ◌≤ℤ◌, ◌<ℤ◌}
use Rattle.std.proofs.Common.{sym, ◌∙◌, ap, subst, inl, inr, arith}
use Rattle.std.proofs.Math.Logic.{⊎_elim}
use Rattle.std.proofs.Math.IntN.{pos, neg_ℤ-neg_ℤ}
use Rattle.std.specs.Int.Signed.{quot_z, le_z}
use Rattle.whole.specs.Flags.{cond_ind, cond_same, by, and_l}
use Rattle.whole.specs.Parts.{of_le, of_lt, of_eq, eq_of, le_lit, le_refl, le_trans, cross}
use Rattle.whole.specs.Difference.{at, lit, ◌⊞◌, ◌⊟◌, ⊖, ◌⊠◌, le!, eq!, le?, eq?, mul_nonneg, times_none}
use Rattle.whole.specs.Quotient.{quot_le, quot_cancel, quot_none}
use Rattle.whole.specs.Tests.{le_yes, le_no}
use Rattle.whole.specs.Choice.{min_z, max_z, size_z, min_l, max_l, max_r, max_of}
use Rattle.whole.specs.Choice.{size_ge, size_ge_neg, size_nonneg, size_of, size_neg}
use Rattle.rules.specs.Face.{Side, Flux, wave, none, u_star, a_star, left_wave, right_wave, mass}
use Rattle.rules.specs.Face.{mixture, mixed, top, alone, between, sided, nothing, wet, face}
use Rattle.rules.specs.Lawful.{Bounds, Still, resting, mirror, Lawful}
use Rattle.rules.proofs.Laws.Speeds.{wave≥0, wave_none}
use Rattle.rules.proofs.Laws.Mixed.{Waves, mixed_le}
use Rattle.rules.proofs.Laws.Mirror.{right_wave_mirror, face_mirror}

pub none_is : {h : ℤ} → pos 0 ≤ℤ h → none h ≡ true → h ≡ pos 0
none_is {h} a e = eq_of h (pos 0) (omega (arith, of_le a, of_le (le_yes h (pos 0) e)))

-- ---- the top speed is at least each
pub record Top (s sL sR uL uR : ℤ) : Type 0 where
  pub size : pos 0 ≤ℤ s
  pub s≥s_r : sR ≤ℤ s
  pub s≥s_l : neg_ℤ sL ≤ℤ s
  pub s≥u_l : uL ≤ℤ s
  pub s≥u_r : neg_ℤ uR ≤ℤ s

pub is_top : (l r : Side) (sL sR : ℤ) → Top (top l r sL sR) sL sR l.u r.u
unfolding top
is_top l r sL sR =
    let a = size_z sL in let b = size_z sR in let c = size_z l.u in let d = size_z r.u in
    let m : max_z (max_z a b) c ≤ℤ max_z (max_z (max_z a b) c) d = max_l (max_z (max_z a b) c) d in
    let n : max_z a b ≤ℤ max_z (max_z (max_z a b) c) d = le_trans (max_l (max_z a b) c) m in
    record {
      size = le_trans (size_nonneg sL) (le_trans (max_l a b) n);
      s≥s_r = le_trans (size_ge sR) (le_trans (max_r a b) n);
      s≥s_l = le_trans (size_ge_neg sL) (le_trans (max_l a b) n);
      s≥u_l = le_trans (size_ge l.u) (le_trans (max_r (max_z a b) c) m);
      s≥u_r = le_trans (size_ge_neg r.u) (max_r (max_z (max_z a b) c) d);
    }

-- ---- a wave is not slower than the water of its side
pub left_wave_le : (l r : Side) → pos 0 ≤ℤ l.h → (left_wave l r ≤ℤ l.u) ⊎ (l.h ≡ pos 0)
unfolding left_wave
left_wave_le l r h = by (none l.h) (λ e. inr (none_is h e))
    (λ e. inl (rw e (le_trans (min_l (l.u -ℤ wave l.h) (u_star l r -ℤ a_star l r))
    (le! (at l.u ⊟ at (wave l.h)) (at l.u) (omega (arith, of_le (wave≥0 l.h)))))))

pub right_wave_ge : (l r : Side) → pos 0 ≤ℤ r.h → (r.u ≤ℤ right_wave l r) ⊎ (r.h ≡ pos 0)
unfolding right_wave
right_wave_ge l r h = by (none r.h) (λ e. inr (none_is h e))
    (λ e. inl (rw e (le_trans (le! (at r.u) (at r.u ⊞ at (wave r.h)) (omega (
      arith,
      of_le (wave≥0 r.h),
    ))) (max_l (r.u +ℤ wave r.h) (u_star l r +ℤ a_star l r)))))

pub waves : (l r : Side) → pos 0 ≤ℤ l.h → pos 0 ≤ℤ r.h → left_wave l r <ℤ pos 0 → pos 0 <ℤ right_wave l r
    → Waves (left_wave l r) (right_wave l r) l.h r.h l.u r.u (top l r (left_wave l r) (right_wave l r))
waves l r hl hr a b = let t = is_top l r (left_wave l r) (right_wave l r) in
    record {
      left = a;
      right = b;
      u_l≥ = left_wave_le l r hl;
      u_r≤ = right_wave_ge l r hr;
      S≥s_r = t.s≥s_r;
      S≥s_l = t.s≥s_l;
      S≥u_l = t.s≥u_l;
      S≥u_r = t.s≥u_r;
    }

-- ---- what leaves the left side
abbrev Out : Side → Flux → Type 0
Out l f = (pos 4096 *ℤ f.F) ≤ℤ (l.h *ℤ f.S)

mass_le : (x : Side) (b : ℤ) → pos 0 ≤ℤ b → (x.h *ℤ x.u) ≤ℤ b → (pos 4096 *ℤ mass x) ≤ℤ b
unfolding mass
mass_le x b h k = subst (λ (z : ℤ). z ≤ℤ b) (eq! (at (mass x) ⊠ lit 4096) (lit 4096 ⊠ at (mass x)) (omega arith))
    (quot_le (x.h *ℤ x.u) (pos 4096) b (record { lt = tt }) h k)

module _ (l r : Side) (hl : pos 0 ≤ℤ l.h) (hr : pos 0 ≤ℤ r.h) where
  s : ℤ
  s = top l r (left_wave l r) (right_wave l r)

  t : Top s (left_wave l r) (right_wave l r) l.u r.u
  unfolding s
  t = is_top l r (left_wave l r) (right_wave l r)

  room : pos 0 ≤ℤ (l.h *ℤ s)
  room = mul_nonneg l.h s hl t.size

  left_alone : Out l (alone l s)
  unfolding alone
  left_alone =
      mass_le l (l.h *ℤ s) room (le! (at l.h ⊠ at l.u) (at l.h ⊠ at s) (omega (arith, cross (of_le hl) (of_le t.s≥u_l))))

  right_alone : right_wave l r ≤ℤ pos 0 → Out l (alone r s)
  unfolding alone
  right_alone p = mass_le r (l.h *ℤ s) room (le_trans flow room)
    where
      flow : (r.h *ℤ r.u) ≤ℤ pos 0
      flow = ⊎_elim
          (λ m. let k : r.u ≤ℤ pos 0 = le_trans m p in le! (at r.h ⊠ at r.u) (lit 0) (omega (arith, cross (of_le hr) (of_le k))))
          (λ e. rw e (le! (lit 0 ⊠ at r.u) (lit 0) (omega arith))) (right_wave_ge l r hr)

  out_of : Out l (face l r)
  unfolding face wet sided nothing between s
  out_of = let sL = left_wave l r in let sR = right_wave l r in
      cond_ind (none l.h && none r.h) nothing (wet l r sL sR) (Out l) (λ e. rw (times_none l.h) (le_lit (pos 0) (pos 0) tt))
      (λ e. cond_ind (le_z (pos 0) sL) (alone l s) (cond (le_z sR (pos 0)) (alone r s) (between l r sL sR s)) (Out l) (λ d. left_alone)
      (λ d. cond_ind (le_z sR (pos 0)) (alone r s) (between l r sL sR s) (Out l) (λ c. right_alone (le_yes sR (pos 0) c))
      (λ c. mixed_le sL sR l.h r.h l.u r.u s (waves l r hl hr (le_no (pos 0) sL d) (le_no sR (pos 0) c)) hl hr)))

  top_of : pos 0 ≤ℤ (face l r).S
  unfolding face wet sided nothing between alone s
  top_of = let sL = left_wave l r in let sR = right_wave l r in let P : Flux → Type 0 = (λ f. pos 0 ≤ℤ f.S) in
      cond_ind (none l.h && none r.h) nothing (wet l r sL sR) P (λ e. le_lit (pos 0) (pos 0) tt)
      (λ e. cond_ind (le_z (pos 0) sL) (alone l s) (cond (le_z sR (pos 0)) (alone r s) (between l r sL sR s)) P (λ d. t.size)
      (λ d. cond_ind (le_z sR (pos 0)) (alone r s) (between l r sL sR s) P (λ c. t.size) (λ c. t.size)))

-- what leaves the right side is what leaves the left one of the mirror image
pub bounds : (l r : Side) → pos 0 ≤ℤ l.h → pos 0 ≤ℤ r.h → Bounds l r (face l r)
bounds l r hl hr = record { size = top_of l r hl hr; out = out_of l r hl hr; back = turned (face l r).F (r.h *ℤ (face l r).S) image }
  where
    image : (pos 4096 *ℤ neg_ℤ (face l r).F) ≤ℤ (r.h *ℤ (face l r).S)
    image = subst (Out r) (face_mirror l r) (out_of (mirror r) (mirror l) hr hl)

    turned : (f b : ℤ) → (pos 4096 *ℤ neg_ℤ f) ≤ℤ b → neg_ℤ b ≤ℤ (pos 4096 *ℤ f)
    turned f b h = le! (⊖ (at b)) (lit 4096 ⊠ at f) (omega (arith, le? (lit 4096 ⊠ ⊖ (at f)) (at b) h))

-- ---- still water
still_alone : (h s : ℤ) → Still h (alone (resting h) s)
unfolding alone mass
still_alone h s = record {
  F≡ = quot_none (h *ℤ pos 0) (pos 4096) (times_none h);
  K≡ = refl;
  A≡ = quot_none (quot_z (h *ℤ pos 0) (pos 4096) *ℤ pos 0) (pos 4096) (times_none (quot_z (h *ℤ pos 0) (pos 4096)));
}

still_mixed : (sL sR h : ℤ) → mixed sL sR h h (pos 0) (pos 0) ≡ pos 0
unfolding mixed mixture
still_mixed sL sR h = quot_none (sR *ℤ h *ℤ pos 0 -ℤ sL *ℤ h *ℤ pos 0 +ℤ sL *ℤ sR *ℤ (h -ℤ h)) (pos 4096 *ℤ (sR -ℤ sL))
    (eq! (at sR ⊠ at h ⊠ lit 0 ⊟ at sL ⊠ at h ⊠ lit 0 ⊞ at sL ⊠ at sR ⊠ (at h ⊟ at h)) (lit 0) (omega arith))

still_between : (h sL sR s : ℤ) → sL <ℤ pos 0 → pos 0 <ℤ sR → Still h (between (resting h) (resting h) sL sR s)
unfolding between
still_between h sL sR s a b = record {
  F≡ = still_mixed sL sR h;
  K≡ = ap (λ (z : ℤ). quot_z z (sR -ℤ sL)) (eq! (at sR ⊠ (at h ⊠ at h) ⊟ at sL ⊠ (at h ⊠ at h)) (at h ⊠ at h ⊠ (at sR ⊟ at sL))
      (omega arith)) ∙ quot_cancel (h *ℤ h) (sR -ℤ sL) differ;
  A≡ = still_mixed sL sR (mass (resting h));
}
  where
    differ : sR -ℤ sL ≡ pos 0 → ⊥
    differ e = omega (arith, of_lt a, of_lt b, eq? (at sR ⊟ at sL) (lit 0) e)

pub still : (h : ℤ) → pos 0 ≤ℤ h → Still h (face (resting h) (resting h))
unfolding face wet sided nothing
still h k = let x = resting h in let sL = left_wave x x in let sR = right_wave x x in let s = top x x sL sR in
    cond_ind (none h && none h) nothing (wet x x sL sR) (Still h)
    (λ e. let z : h ≡ pos 0 = none_is k (and_l (none h) (none h) e) in record { F≡ = refl; K≡ = rw z; A≡ = refl })
    (λ e. cond_ind (le_z (pos 0) sL) (alone x s) (cond (le_z sR (pos 0)) (alone x s) (between x x sL sR s)) (Still h) (λ d. still_alone h s)
    (λ d. cond_ind (le_z sR (pos 0)) (alone x s) (between x x sL sR s) (Still h) (λ c. still_alone h s)
    (λ c. still_between h sL sR s (le_no (pos 0) sL d) (le_no sR (pos 0) c))))

-- its two waves run apart at its wave speed, which is so the top speed
still_u* : (h : ℤ) → u_star (resting h) (resting h) ≡ pos 0
unfolding u_star
still_u* h = eq! (lit 0 ⊞ at (wave h) ⊟ at (wave h)) (lit 0) (omega arith)

still_a* : (h : ℤ) → a_star (resting h) (resting h) ≡ wave h
unfolding a_star
still_a* h =
    ap (λ (z : ℤ). size_z (quot_z z (pos 4)))
    (eq! (lit 2 ⊠ (at (wave h) ⊞ at (wave h)) ⊞ lit 0 ⊟ lit 0) (at (wave h) ⊠ lit 4) (omega arith))
    ∙ ap size_z (quot_cancel (wave h) (pos 4) (λ e. omega (arith, of_eq e)))
    ∙ size_of (wave h) (wave≥0 h)

still_s_l : (h : ℤ) → none h ≡ false → left_wave (resting h) (resting h) ≡ neg_ℤ (wave h)
unfolding left_wave min_z
still_s_l h e =
    let w = wave h in
    rw (e, still_u* h, still_a* h)
    (cond_same (le_z (pos 0 -ℤ w) (pos 0 -ℤ w)) (pos 0 -ℤ w) (pos 0 -ℤ w) (neg_ℤ w) (outward w) (outward w))
  where
    outward : (w : ℤ) → pos 0 -ℤ w ≡ neg_ℤ w
    outward w = eq! (lit 0 ⊟ at w) (⊖ (at w)) (omega arith)

still_s_r : (h : ℤ) → none h ≡ false → right_wave (resting h) (resting h) ≡ wave h
still_s_r h e = right_wave_mirror (resting h) (resting h) ∙ ap neg_ℤ (still_s_l h e) ∙ neg_ℤ-neg_ℤ (wave h)

still_S : (h : ℤ) → none h ≡ false → let x = resting h in top x x (left_wave x x) (right_wave x x) ≡ wave h
unfolding top
still_S h e =
    let w = wave h in let over_none = max_of w (pos 0) (wave≥0 h) in
    rw (
      still_s_l h e,
      still_s_r h e,
      size_neg w,
      size_of w (wave≥0 h),
      size_of (pos 0) (le_refl (pos 0)),
      max_of w w (le_refl w),
      over_none,
    ) over_none

sided_top : (l r : Side) (sL sR s : ℤ) → (sided l r sL sR s).S ≡ s
unfolding sided alone between
sided_top l r sL sR s = by (le_z (pos 0) sL) (λ d. rw d) (λ d. by (le_z sR (pos 0)) (λ c. rw (d, c)) (λ c. rw (d, c)))

pub still_top : (h : ℤ) → pos 0 ≤ℤ h → (face (resting h) (resting h)).S ≡ wave h
unfolding face wet nothing
still_top h k =
    let x = resting h in let sL = left_wave x x in let sR = right_wave x x in
    by (none h) (λ e. rw (none_is k e) (sym wave_none)) (λ e. rw e (sided_top x x sL sR (top x x sL sR) ∙ still_S h e))

-- ---- the rule is lawful
pub lawful : Lawful face
lawful = record { bounds = bounds; still = still; mirrored = face_mirror }

-- ---- nothing crosses a wall: its face is its own mirror image
pub wall : (f : Side → Side → Flux) → Lawful f → (x : Side) → (f (mirror x) x).F ≡ pos 0
wall f law x = no_flow (f (mirror x) x).F (ap (λ (g : Flux). g.F) (ap (f (mirror x)) (back x) ∙ law.mirrored (mirror x) x))
  where
    back : (x : Side) → x ≡ mirror (mirror x)
    back x = λ j. record { h = x.h; u = sym (neg_ℤ-neg_ℤ x.u) j }

    no_flow : (a : ℤ) → a ≡ neg_ℤ a → a ≡ pos 0
    no_flow a e = eq! (at a) (lit 0) (omega (arith, eq? (at a) (⊖ (at a)) e))
