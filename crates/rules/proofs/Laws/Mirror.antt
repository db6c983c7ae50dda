-- The face seen from the other bank: mass turns round; pressure, advection and top speed stay.
-- Assumes nothing.
use Rattle.std.specs.Prelude.{◌≡◌, refl, Bool, true, false, cond, ◌&&◌, ℤ, pos, neg_ℤ, ◌+ℤ◌, ◌-ℤ◌, ◌*ℤ◌, ◌≤ℤ◌}
use Rattle.std.proofs.Common.{sym, ◌∙◌, ap, ap₂, arith}
use Rattle.std.proofs.Math.Bool.{and_comm}
use Rattle.std.proofs.Math.IntN.{neg_ℤ-neg_ℤ}
use Rattle.std.specs.Int.Signed.{quot_z, le_z}
use Rattle.whole.specs.Flags.{by, clash, cond_map}
use Rattle.whole.specs.Parts.{of_le, of_lt, le_trans}
use Rattle.whole.specs.Difference.{at, lit, ◌⊞◌, ◌⊟◌, ⊖, ◌⊠◌, le!, eq!, le?, neg_less}
use Rattle.whole.specs.Quotient.{quot_odd, up_quot, dn_quot}
use Rattle.whole.specs.Tests.{le_yes, le_no, le_neg}
use Rattle.whole.specs.Choice.{min_z, max_z, size_z, min_l, min_r, max_l, max_r, min_neg, max_comm, max_swap, size_neg, size_ge}
use Rattle.rules.specs.Face.{Side, Flux, wave, none, u_star, a_star, left_wave, right_wave, mass}
use Rattle.rules.specs.Face.{mixed, top, alone, between, sided, nothing, wet, face}
use Rattle.rules.specs.Lawful.{mirror, flip}
use Rattle.rules.proofs.Laws.Speeds.{wave_pos}
use Rattle.rules.proofs.Laws.Mixed.{mixed_mirror, mixed_odd}

flux_is : (f g : Flux) → f.F ≡ g.F → f.K ≡ g.K → f.A ≡ g.A → f.S ≡ g.S → f ≡ g
flux_is f g a b c d = λ j. record { F = a j; K = b j; A = c j; S = d j }

-- ---- the waves
u_star_mirror : (l r : Side) → u_star (mirror r) (mirror l) ≡ neg_ℤ (u_star l r)
unfolding u_star
u_star_mirror l r = let a = wave l.h in let b = wave r.h in let q = quot_z (l.u +ℤ r.u) (pos 2) in
    ap (λ (z : ℤ). z +ℤ b -ℤ a)
    (quot_odd (l.u +ℤ r.u) (pos 2) (eq! (⊖ (at r.u) ⊞ ⊖ (at l.u)) (⊖ (at l.u ⊞ at r.u)) (omega arith)))
    ∙ eq! (⊖ (at q) ⊞ at b ⊟ at a) (⊖ (at q ⊞ at a ⊟ at b)) (omega arith)

a_star_mirror : (l r : Side) → a_star (mirror r) (mirror l) ≡ a_star l r
unfolding a_star
a_star_mirror l r = let a = wave l.h in let b = wave r.h in
    ap (λ (z : ℤ). size_z (quot_z z (pos 4)))
    (eq! (lit 2 ⊠ (at b ⊞ at a) ⊞ ⊖ (at r.u) ⊟ ⊖ (at l.u)) (lit 2 ⊠ (at a ⊞ at b) ⊞ at l.u ⊟ at r.u) (omega arith))

left_wave_mirror : (l r : Side) → left_wave (mirror r) (mirror l) ≡ neg_ℤ (right_wave l r)
unfolding left_wave right_wave
left_wave_mirror l r = let a = wave l.h in let b = wave r.h in let m = u_star l r in let s = a_star l r in
    ap₂ (cond (none r.h)) (neg_less l.u (pos 2 *ℤ a))
    (ap₂ min_z (neg_less r.u b)
    (ap₂ ◌-ℤ◌ (u_star_mirror l r) (a_star_mirror l r) ∙ neg_less m s)
    ∙ min_neg (r.u +ℤ b) (m +ℤ s))
    ∙ cond_map neg_ℤ (none r.h) (l.u +ℤ pos 2 *ℤ a) (max_z (r.u +ℤ b) (m +ℤ s))

-- the other way round, as a side seen twice in a mirror is the side itself, and so is a flux
pub mirror_twice : (x : Side) → mirror (mirror x) ≡ x
mirror_twice x = λ j. record { h = x.h; u = neg_ℤ-neg_ℤ x.u j }

pub flip_twice : (f : Flux) → flip (flip f) ≡ f
flip_twice f = λ j. record { F = neg_ℤ-neg_ℤ f.F j; K = f.K; A = f.A; S = f.S }

pub right_wave_mirror : (l r : Side) → right_wave (mirror r) (mirror l) ≡ neg_ℤ (left_wave l r)
right_wave_mirror l r =
    sym (neg_ℤ-neg_ℤ (right_wave (mirror r) (mirror l)))
    ∙ ap neg_ℤ (sym (left_wave_mirror (mirror r) (mirror l)) ∙ ap₂ left_wave (mirror_twice l) (mirror_twice r))

top_mirror : (l r : Side) (sL sR : ℤ) → top (mirror r) (mirror l) (neg_ℤ sR) (neg_ℤ sL) ≡ top l r sL sR
unfolding top
top_mirror l r sL sR = let a = size_z sL in let b = size_z sR in let c = size_z l.u in let d = size_z r.u in
    rw (size_neg sR, size_neg sL, size_neg r.u, size_neg l.u)
    (max_swap (max_z b a) d c ∙ ap (λ (z : ℤ). max_z (max_z z c) d) (max_comm b a))

-- ---- the three cases
mass_mirror : (x : Side) → mass (mirror x) ≡ neg_ℤ (mass x)
unfolding mass
mass_mirror x = quot_odd (x.h *ℤ x.u) (pos 4096) (eq! (at x.h ⊠ ⊖ (at x.u)) (⊖ (at x.h ⊠ at x.u)) (omega arith))

alone_mirror : (x : Side) (s : ℤ) → alone (mirror x) s ≡ flip (alone x s)
unfolding alone
alone_mirror x s = flux_is (alone (mirror x) s) (flip (alone x s)) (mass_mirror x) refl
    (ap (λ (z : ℤ). quot_z z (pos 4096))
    (ap (λ (z : ℤ). z *ℤ neg_ℤ x.u) (mass_mirror x) ∙ eq! (⊖ (at (mass x)) ⊠ ⊖ (at x.u)) (at (mass x) ⊠ at x.u) (omega arith))) refl

between_mirror : (l r : Side) (x y s : ℤ) → between (mirror r) (mirror l) (neg_ℤ y) (neg_ℤ x) s ≡ flip (between l r x y s)
unfolding between
between_mirror l r x y s = let a = l.h in let b = r.h in
    flux_is (between (mirror r) (mirror l) (neg_ℤ y) (neg_ℤ x) s) (flip (between l r x y s))
    (mixed_mirror x y a b l.u r.u)
    (ap₂ quot_z (eq! (⊖ (at x) ⊠ (at b ⊠ at b) ⊟ ⊖ (at y) ⊠ (at a ⊠ at a)) (at y ⊠ (at a ⊠ at a) ⊟ at x ⊠ (at b ⊠ at b)) (omega arith))
    (eq! (⊖ (at x) ⊟ ⊖ (at y)) (at y ⊟ at x) (omega arith)))
    (ap₂ (λ (p q : ℤ). mixed (neg_ℤ y) (neg_ℤ x) p q (neg_ℤ r.u) (neg_ℤ l.u)) (mass_mirror r) (mass_mirror l)
    ∙ mixed_odd (neg_ℤ y) (neg_ℤ x) (mass r) (mass l) (neg_ℤ r.u) (neg_ℤ l.u)
    ∙ ap neg_ℤ (mixed_mirror x y (mass l) (mass r) l.u r.u) ∙ neg_ℤ-neg_ℤ (mixed x y (mass l) (mass r) l.u r.u))
    refl

sided_mirror : (l r : Side) (x y s : ℤ) → (pos 0 ≤ℤ x → y ≤ℤ pos 0 → ⊥)
    → sided (mirror r) (mirror l) (neg_ℤ y) (neg_ℤ x) s ≡ flip (sided l r x y s)
unfolding sided
sided_mirror l r x y s n = by (le_z (pos 0) x)
    (λ e. by (le_z y (pos 0)) (λ d. absurd (n (le_yes (pos 0) x e) (le_yes y (pos 0) d)))
    (λ d. rw (le_neg (pos 0) y, le_neg x (pos 0), e, d) (alone_mirror l s)))
    (λ e. by (le_z y (pos 0)) (λ d. rw (le_neg (pos 0) y, le_neg x (pos 0), e, d) (alone_mirror r s))
    (λ d. rw (le_neg (pos 0) y, le_neg x (pos 0), e, d) (between_mirror l r x y s)))

-- ---- sL ≥ 0 and sR ≤ 0 never hold together, so the order of those two tests is free
quarter : (n : ℤ) → pos 4 ≤ℤ n → pos 1 ≤ℤ quot_z n (pos 4)
quarter n h = le! (lit 1) (at (quot_z n (pos 4))) (omega (arith, of_le h, up_quot n 4, dn_quot n 4))

a_star_ge : (l r : Side) → pos 4 ≤ℤ (pos 2 *ℤ (wave l.h +ℤ wave r.h) +ℤ l.u -ℤ r.u) → pos 1 ≤ℤ a_star l r
unfolding a_star
a_star_ge l r h = let n = pos 2 *ℤ (wave l.h +ℤ wave r.h) +ℤ l.u -ℤ r.u in le_trans (quarter n h) (size_ge (quot_z n (pos 4)))

pub never_both : (l r : Side) → (none l.h && none r.h) ≡ false → pos 0 ≤ℤ left_wave l r → right_wave l r ≤ℤ pos 0 → ⊥
unfolding left_wave right_wave
never_both l r e p q = go (none l.h) (none r.h) refl refl e
  where
    a : ℤ
    a = wave l.h

    b : ℤ
    b = wave r.h

    m : ℤ
    m = u_star l r

    s : ℤ
    s = a_star l r

    go : (x y : Bool) → none l.h ≡ x → none r.h ≡ y → (x && y) ≡ false → ⊥
    go true true c d f = clash (sym f)
    go true false c d f =
        let p' : pos 0 ≤ℤ (r.u -ℤ pos 2 *ℤ b) = rw c at p in
        let q' : max_z (r.u +ℤ b) (m +ℤ s) ≤ℤ pos 0 = rw d at q in
        omega (
          arith,
          of_lt (wave_pos r.h (le_no r.h (pos 0) d)),
          le? (lit 0) (at r.u ⊟ lit 2 ⊠ at b) p',
          le? (at r.u ⊞ at b) (lit 0) (le_trans (max_l (r.u +ℤ b) (m +ℤ s)) q'),
        )
    go false true c d f =
        let p' : pos 0 ≤ℤ min_z (l.u -ℤ a) (m -ℤ s) = rw c at p in
        let q' : (l.u +ℤ pos 2 *ℤ a) ≤ℤ pos 0 = rw d at q in
        omega (
          arith,
          of_lt (wave_pos l.h (le_no l.h (pos 0) c)),
          le? (at l.u ⊞ lit 2 ⊠ at a) (lit 0) q',
          le? (lit 0) (at l.u ⊟ at a) (le_trans p' (min_l (l.u -ℤ a) (m -ℤ s))),
        )
    go false false c d f =
        let p' : pos 0 ≤ℤ min_z (l.u -ℤ a) (m -ℤ s) = rw c at p in
        let q' : max_z (r.u +ℤ b) (m +ℤ s) ≤ℤ pos 0 = rw d at q in
        let pu : pos 0 ≤ℤ (l.u -ℤ a) = le_trans p' (min_l (l.u -ℤ a) (m -ℤ s)) in
        let pm : pos 0 ≤ℤ (m -ℤ s) = le_trans p' (min_r (l.u -ℤ a) (m -ℤ s)) in
        let qu : (r.u +ℤ b) ≤ℤ pos 0 = le_trans (max_l (r.u +ℤ b) (m +ℤ s)) q' in
        let qm : (m +ℤ s) ≤ℤ pos 0 = le_trans (max_r (r.u +ℤ b) (m +ℤ s)) q' in
        let k : pos 1 ≤ℤ s = a_star_ge l r (le! (lit 4) (lit 2 ⊠ (at a ⊞ at b) ⊞ at l.u ⊟ at r.u)
        (omega (
          arith,
          of_lt (wave_pos l.h (le_no l.h (pos 0) c)),
          of_lt (wave_pos r.h (le_no r.h (pos 0) d)),
          le? (lit 0) (at l.u ⊟ at a) pu,
          le? (at r.u ⊞ at b) (lit 0) qu,
        ))) in
        omega (arith, of_le k, le? (lit 0) (at m ⊟ at s) pm, le? (at m ⊞ at s) (lit 0) qm)

pub face_mirror : (l r : Side) → face (mirror r) (mirror l) ≡ flip (face l r)
unfolding face wet nothing
face_mirror l r = let x = left_wave l r in let y = right_wave l r in by (none l.h && none r.h)
    (λ e. rw (and_comm (none r.h) (none l.h), e))
    (λ e. rw (and_comm (none r.h) (none l.h), e)
    (ap₂ (wet (mirror r) (mirror l)) (left_wave_mirror l r) (right_wave_mirror l r)
    ∙ ap (sided (mirror r) (mirror l) (neg_ℤ y) (neg_ℤ x)) (top_mirror l r x y) ∙ sided_mirror l r x y (top l r x y) (never_both l r e)))
