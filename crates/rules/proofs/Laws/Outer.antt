-- What crosses a wall or an open end, which has an outer side, of whatever reach: what a row of faces asks of it, nothing at a wall, and no
-- more than half of what stands there. The right end is the left one seen from the other bank, so each law is shown of the left end and
-- turned. Of the face rule only what is lawful is used.
-- Assumes nothing.
use Rattle.std.specs.Prelude.{◌≡◌, ℕ, eqb, ℤ, pos, neg_ℤ, ◌≤ℤ◌, ◌<ℤ◌}
use Rattle.std.proofs.Math.Path.{refl}
use Rattle.std.proofs.Common.{sym, ◌∙◌, ap, subst, arith}
use Rattle.whole.specs.Flags.{by, cond_same}
use Rattle.whole.specs.Parts.{Within, b_neg, b_range}
use Rattle.whole.specs.Difference.{at, lit, nlit, ⊖, ◌⊠◌, le!, le?}
use Rattle.rules.specs.Limits.{deepest}
use Rattle.rules.specs.Face.{Side, Flux}
use Rattle.rules.specs.Lawful.{Still, resting, mirror, flip, Lawful}
use Rattle.rules.specs.Shown.{volume}
use Rattle.rules.specs.Ends.{outer}
use Rattle.rules.proofs.Laws.Mirror.{mirror_twice}
use Rattle.rules.proofs.Laws.Face.{wall}
use Rattle.rules.proofs.Laws.Shown.{TakesRight, TakesLeft, takes_flip, face_right, face_left}
use Rattle.rules.proofs.Laws.Shown.{InTime, volume_flip, half_right, half_left}

outer_turn : (kind : ℕ) (x : Side) → outer kind (mirror x) ≡ mirror (outer kind x)
unfolding outer
outer_turn kind x = by (eqb kind 0) (λ b. rw b) (λ b. rw b)

module _ (face : Side → Side → Flux) (law : Lawful face) (kind : ℕ) where
  -- what crosses the left and the right one
  abbrev left : Side → Flux
  left x = face (outer kind x) x

  abbrev right : Side → Flux
  right x = face x (outer kind x)

  -- the right one is the left one of the mirror image, seen from the other bank
  pub outer_turned : (x : Side) → right x ≡ flip (left (mirror x))
  outer_turned x =
      ap (λ (y : Side). face y (outer kind y)) (sym (mirror_twice x))
      ∙ ap (face (mirror (mirror x))) (outer_turn kind (mirror x))
      ∙ law.mirrored (outer kind (mirror x)) (mirror x)

  -- each takes no more than its side has
  pub left_outer_takes : (x : Side) → pos 0 ≤ℤ x.h → TakesLeft x.h (left x)
  unfolding outer
  left_outer_takes x h = face_left face law (outer kind x) x h h

  pub right_outer_takes : (x : Side) → pos 0 ≤ℤ x.h → TakesRight x.h (right x)
  right_outer_takes x h = subst (TakesRight x.h) (sym (outer_turned x)) (takes_flip (left_outer_takes (mirror x) h))

  -- the outer side of still water has no speed either, so the end is still
  outer_still : (h : ℤ) → outer kind (resting h) ≡ resting h
  unfolding outer
  outer_still h = λ j. record { h = h; u = cond_same (eqb kind 0) (pos 0) (pos 0) (pos 0) refl refl j }

  pub left_outer_still : (h : ℤ) → pos 0 ≤ℤ h → Still h (left (resting h))
  left_outer_still h p = subst (λ (x : Side). Still h (face x (resting h))) (sym (outer_still h)) (law.still h p)

  pub right_outer_still : (h : ℤ) → pos 0 ≤ℤ h → Still h (right (resting h))
  right_outer_still h p = subst (λ (x : Side). Still h (face (resting h) x)) (sym (outer_still h)) (law.still h p)

  -- no mass crosses a wall
  pub left_outer_wall : kind ≡ 0 → (x : Side) → (left x).F ≡ pos 0
  unfolding outer
  left_outer_wall z x = rw z (wall face law x)

  pub right_outer_wall : kind ≡ 0 → (x : Side) → (right x).F ≡ pos 0
  right_outer_wall z x = ap (λ (f : Flux). f.F) (outer_turned x) ∙ ap neg_ℤ (left_outer_wall z (mirror x))

  -- as much stands on the outer side as on the inner one, and over a step that is short enough no more than half of either is taken: so no
  -- more than half of the greatest depth passes either way
  module _ (dx dt : ℤ) (dx>0 : pos 0 <ℤ dx) (dt≥0 : pos 0 ≤ℤ dt) where
    pub left_outer_most : (x : Side) → pos 0 ≤ℤ x.h → x.h ≤ℤ deepest → InTime dx dt (left x) → Within 131072 (volume dx dt (left x))
    unfolding outer
    left_outer_most x wet low brief =
        let y = outer kind x in let f = left x in let w = volume dx dt f in
        let most = le? (at x.h) (lit 262144) low in
        let out = half_right dx dt dx>0 dt≥0 x.h wet f (face_right face law y x wet wet) brief in
        let back = half_left dx dt dx>0 dt≥0 x.h wet f (face_left face law y x wet wet) brief in
        b_range
        (le! (nlit 131071) (at w) (omega (arith, most, le? (⊖ (at x.h)) (lit 2 ⊠ at w) back)))
        (le! (at w) (lit 131072) (omega (arith, most, le? (lit 2 ⊠ at w) (at x.h) out)))

    pub right_outer_most : (x : Side) → pos 0 ≤ℤ x.h → x.h ≤ℤ deepest → InTime dx dt (right x) → Within 131072 (volume dx dt (right x))
    right_outer_most x wet low brief =
        let turned = left (mirror x) in
        let short : InTime dx dt turned = subst (InTime dx dt) (outer_turned x) brief in
        subst (Within 131072) (sym (ap (volume dx dt) (outer_turned x) ∙ volume_flip dx dt turned))
        (b_neg (left_outer_most (mirror x) wet low short))
