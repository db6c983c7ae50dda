-- How large the numbers of a face can be, for all depths and speeds within the limits (also a speed at depth nought).
-- Assumes nothing.
use Rattle.std.specs.Prelude.{◌≡◌, cond, ◌&&◌, ℕ, ◌+◌, ◌*◌, T, leb, ℤ, ◌+ℤ◌, ◌-ℤ◌, ◌*ℤ◌, ◌≤ℤ◌, ◌<ℤ◌}
use Rattle.std.proofs.Common.{◌∙◌, ap, leb→le}
use Rattle.std.proofs.Math.Path.{subst}
use Rattle.std.proofs.Math.Nat as NatL
use native.Mathlib.Omega.{arith}
use Rattle.std.proofs.Math.IntN.{pos}
use Rattle.std.specs.Int.Signed.{quot_z, le_z}
use Rattle.whole.specs.Flags.{cond_ind}
use Rattle.whole.specs.Parts.{Within, range_b, b_add, b_sub, b_mul, b_lit, b_up, b_nonneg, cross, lt_le, le_lit, le_trans}
use Rattle.whole.specs.Difference.{at, lit, nonneg, nonpos, ◌⊞◌, ◌⊟◌, ◌⊠◌, le!, eq!, le?, b_less, mul_nonneg, none_times}
use Rattle.whole.specs.Quotient.{b_quot_by, quot_le, quot_ge, quot_none, mul_cancel_le}
use Rattle.whole.specs.Tests.{le_no}
use Rattle.whole.specs.Choice.{min_z, max_z, size_z, b_min, b_max, b_size}
use Rattle.rules.specs.Face.{Side, wave, none, u_star, a_star, left_wave, right_wave, mass}
use Rattle.rules.specs.Face.{mixed, top, alone, between, sided, nothing, wet, face}
use Rattle.rules.proofs.Laws.Speeds.{wave≥0, wave_most}
use Rattle.rules.proofs.Laws.Mixed.{Waves, mixed_size, apart}
use Rattle.rules.proofs.Laws.Face.{is_top, waves}
use Rattle.rules.specs.Laws.Sizes.{Sound, Sized}

pub depth_size : {x : Side} → Sound x → Within 262144 x.h
depth_size s = b_nonneg s.least s.most

-- ---- the waves
pub wave_size : {x : Side} → Sound x → Within 102632 (wave x.h)
wave_size {x} s = b_nonneg (wave≥0 x.h) (wave_most x.h (depth_size s))

module _ (l r : Side) (sl : Sound l) (sr : Sound r) where
  u_star_size : Within 233704 (u_star l r)
  unfolding u_star
  u_star_size = subst (Within 233704) (regroup (quot_z (l.u +ℤ r.u) (pos 2)) (wave l.h) (wave r.h))
      (b_add (b_up 131072 (b_quot_by (pos 2) (b_add sl.speed sr.speed)) tt)
      (b_less (wave l.h) (wave r.h) (wave≥0 l.h) (wave≥0 r.h) (wave_size sl) (wave_size sr)))
    where
      regroup : (a b c : ℤ) → a +ℤ (b -ℤ c) ≡ a +ℤ b -ℤ c
      regroup a b c = eq! (at a ⊞ (at b ⊟ at c)) (at a ⊞ at b ⊟ at c) (omega arith)

  a_star_size : Within 168168 (a_star l r)
  unfolding a_star
  a_star_size = b_size (quot_z (pos 2 *ℤ (wave l.h +ℤ wave r.h) +ℤ l.u -ℤ r.u) (pos 4))
      (b_up 168168 (b_quot_by (pos 4) (b_sub (b_add (b_mul (b_lit (pos 2)) (b_add (wave_size sl) (wave_size sr))) sl.speed) sr.speed))
      tt)

  pub left_wave_size : Within 401872 (left_wave l r)
  unfolding left_wave
  left_wave_size =
      cond_ind (none l.h) (r.u -ℤ pos 2 *ℤ wave r.h) (min_z (l.u -ℤ wave l.h) (u_star l r -ℤ a_star l r)) (Within 401872)
      (λ e. b_up 401872 (b_sub sr.speed (b_mul (b_lit (pos 2)) (wave_size sr))) tt)
      (λ e. b_min (l.u -ℤ wave l.h) (u_star l r -ℤ a_star l r) (b_up 401872 (b_sub sl.speed (wave_size sl)) tt)
      (b_sub u_star_size a_star_size))

  pub right_wave_size : Within 401872 (right_wave l r)
  unfolding right_wave
  right_wave_size =
      cond_ind (none r.h) (l.u +ℤ pos 2 *ℤ wave l.h) (max_z (r.u +ℤ wave r.h) (u_star l r +ℤ a_star l r)) (Within 401872)
      (λ e. b_up 401872 (b_add sl.speed (b_mul (b_lit (pos 2)) (wave_size sl))) tt)
      (λ e. b_max (r.u +ℤ wave r.h) (u_star l r +ℤ a_star l r) (b_up 401872 (b_add sr.speed (wave_size sr)) tt)
      (b_add u_star_size a_star_size))

  pub top_size : (sL sR : ℤ) → Within 401872 sL → Within 401872 sR → Within 401872 (top l r sL sR)
  unfolding top
  top_size sL sR a b =
      b_max (max_z (max_z (size_z sL) (size_z sR)) (size_z l.u)) (size_z r.u)
      (b_max (max_z (size_z sL) (size_z sR)) (size_z l.u) (b_max (size_z sL) (size_z sR) (b_size sL a) (b_size sR b))
      (b_size l.u (b_up 401872 sl.speed tt)))
      (b_size r.u (b_up 401872 sr.speed tt))

pub mass_size : {x : Side} → Sound x → Within 8388608 (mass x)
unfolding mass
mass_size s = b_up 8388608 (b_quot_by (pos 4096) (b_mul (depth_size s) s.speed)) tt

-- no mass where there is no depth
pub mass_none : (x : Side) → x.h ≡ pos 0 → mass x ≡ pos 0
unfolding mass
mass_none x e = quot_none (x.h *ℤ x.u) (pos 4096) (ap (λ (z : ℤ). z *ℤ x.u) e ∙ none_times x.u)

pub square_size : {x : Side} → Sound x → (x.h *ℤ x.h) ≤ℤ pos 68719476736
square_size s = (range_b (b_mul (depth_size s) (depth_size s))).1

module _ (l r : Side) (sl : Sound l) (sr : Sound r) where
  alone_sized : (x : Side) → Sound x → (s : ℤ) → pos 0 ≤ℤ s → Within 401872 s → Sized (alone x s)
  unfolding alone
  alone_sized x sx s p q = record {
    F = b_up 51439616 (mass_size sx) tt;
    K≥0 = mul_nonneg x.h x.h sx.least sx.least;
    K = square_size sx;
    A = b_up 1646067712 (b_quot_by (pos 4096) (b_mul (mass_size sx) sx.speed)) tt;
    S≥0 = p;
    S = q;
  }

  -- a mixture of a and b, each within A
  mixture_size : (sL sR S a b : ℤ) (A B : ℕ) → Waves sL sR l.h r.h l.u r.u S → (l.h ≡ pos 0 → a ≡ pos 0)
      → (r.h ≡ pos 0 → b ≡ pos 0) → Within A a → Within A b → Within 401872 S → T (leb ((A + A) * 401872) (B * 4096))
      → Within B (mixed sL sR a b l.u r.u)
  mixture_size sL sR S a b A B w za zb p q s t = record {
    abs = NatL.le_of_mul-le-mul_right {k = 4096}
        (NatL.le_trans (mixed_size sL sR l.h r.h l.u r.u S w a b za zb) (NatL.le_trans
        (NatL.mul-le-mul (NatL.add-le-add p.abs q.abs) s.abs) (leb→le ((A + A) * 401872) (B * 4096) t))) (omega arith);
  }

  -- a weighted mean of two squares
  module _ (sL sR : ℤ) (left : sL <ℤ pos 0) (right : pos 0 <ℤ sR) where
    above : ℤ
    above = sR *ℤ (l.h *ℤ l.h) -ℤ sL *ℤ (r.h *ℤ r.h)

    above≥0 : pos 0 ≤ℤ above
    unfolding above
    above≥0 =
        let x = nonpos (lt_le left) in
        let y = nonneg (lt_le right) in
        let a = nonneg (mul_nonneg l.h l.h sl.least sl.least) in
        let b = nonneg (mul_nonneg r.h r.h sr.least sr.least) in
        le! (lit 0) (y ⊠ a ⊟ x ⊠ b) (omega arith)

    above_most : above ≤ℤ (pos 68719476736 *ℤ (sR -ℤ sL))
    unfolding above
    above_most =
        let x = nonpos (lt_le left) in
        let y = nonneg (lt_le right) in
        let a = nonneg (mul_nonneg l.h l.h sl.least sl.least) in
        let b = nonneg (mul_nonneg r.h r.h sr.least sr.least) in
        le! (y ⊠ a ⊟ x ⊠ b) (lit 68719476736 ⊠ (y ⊟ x))
        (omega (
          arith,
          cross (le? (lit 0) y (lt_le right)) (le? a (lit 68719476736) (square_size sl)),
          cross (le? x (lit 0) (lt_le left)) (le? b (lit 68719476736) (square_size sr)),
        ))

    mean_least : pos 0 ≤ℤ quot_z above (sR -ℤ sL)
    mean_least = let k = quot_z above (sR -ℤ sL) in mul_cancel_le (pos 0) k (sR -ℤ sL) (apart left right)
        (rw (none_times (sR -ℤ sL)) (quot_ge above (sR -ℤ sL) (pos 0) (apart left right) (le_lit (pos 0) (pos 0) tt) above≥0))

    mean_most : quot_z above (sR -ℤ sL) ≤ℤ pos 68719476736
    mean_most = let k = quot_z above (sR -ℤ sL) in mul_cancel_le k (pos 68719476736) (sR -ℤ sL) (apart left right)
        (quot_le above (sR -ℤ sL) (pos 68719476736 *ℤ (sR -ℤ sL)) (apart left right) (le_trans above≥0 above_most) above_most)

  between_sized : (sL sR s : ℤ) → Waves sL sR l.h r.h l.u r.u s → pos 0 ≤ℤ s → Within 401872 s → Sized (between l r sL sR s)
  unfolding between above
  between_sized sL sR s w p q = record {
    F = mixture_size sL sR s l.h r.h 262144 51439616 w (λ e. e) (λ e. e) (depth_size sl) (depth_size sr) q tt;
    K≥0 = mean_least sL sR w.left w.right;
    K = mean_most sL sR w.left w.right;
    A = mixture_size sL sR s (mass l) (mass r) 8388608 1646067712 w (mass_none l) (mass_none r) (mass_size sl) (mass_size sr) q tt;
    S≥0 = p;
    S = q;
  }

  pub face_sized : Sized (face l r)
  unfolding face wet sided nothing
  face_sized = let sL = left_wave l r in let sR = right_wave l r in let s = top l r sL sR in
      let p : pos 0 ≤ℤ s = (is_top l r sL sR).size in
      let q : Within 401872 s = top_size l r sl sr sL sR (left_wave_size l r sl sr) (right_wave_size l r sl sr) in
      cond_ind (none l.h && none r.h) nothing (wet l r sL sR) Sized
      (λ e. record {
        F = b_up 51439616 (b_lit (pos 0)) tt;
        K≥0 = le_lit (pos 0) (pos 0) tt;
        K = le_lit (pos 0) (pos 68719476736) tt;
        A = b_up 1646067712 (b_lit (pos 0)) tt;
        S≥0 = le_lit (pos 0) (pos 0) tt;
        S = b_up 401872 (b_lit (pos 0)) tt;
      })
      (λ e. cond_ind (le_z (pos 0) sL) (alone l s) (cond (le_z sR (pos 0)) (alone r s) (between l r sL sR s)) Sized
      (λ d. alone_sized l sl s p q)
      (λ d. cond_ind (le_z sR (pos 0)) (alone r s) (between l r sL sR s) Sized (λ c. alone_sized r sr s p q)
      (λ c. between_sized sL sR s (waves l r sl.least sr.least (le_no (pos 0) sL d) (le_no sR (pos 0) c)) p q)))
