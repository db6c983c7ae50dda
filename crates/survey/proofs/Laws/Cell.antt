-- One cell from the other end: its two faces and its two Gauss points change places, and each rule of one cell gives the turned cell.
-- What is so of its left is shown, and turned for its right (`from_there`).
-- Assumes nothing.
use Rattle.std.specs.Prelude.{◌≡◌, Bool, [], ◌∷◌, ◌-ℤ◌, ◌*ℤ◌, ◌≤ℤ◌}
use Rattle.std.proofs.Math.Path.{refl, ap, ap₂}
use Rattle.std.proofs.Common.{sym, ◌∙◌, arith}
use Rattle.std.proofs.Math.Bool.{cond}
use Rattle.std.proofs.Math.IntN.{ℤ, pos, neg_ℤ, ◌+ℤ◌, +ℤ_comm}
use Rattle.std.specs.Int.Signed.{quot_z, le_z}
use Rattle.whole.specs.Flags.{cond_map}
use Rattle.whole.specs.Difference.{at, lit, ◌⊞◌, ◌⊟◌, ⊖, ◌⊠◌, eq!, neg_add, neg_sub, sub_neg, neg_less, neg_more, sub_swap}
use Rattle.whole.specs.Ring.{v, k, neg, ◌⊕◌, ◌⊗◌, ◌⊝◌, solve}
use Rattle.whole.specs.Quotient.{quot_odd}
use Rattle.tables.specs.Cells.{Cell}
use Rattle.rules.specs.Face.{Flux, speed}
use Rattle.rules.specs.Friction.{drag, slowed}
use Rattle.rules.specs.Lawful.{mirror, flip}
use Rattle.rules.specs.Shown.{volume}
use Rattle.rules.specs.Reach.{ql, qr, Bed, z0, z1, h0, h1, hl, hr, shallow, side_l, side_r}
use Rattle.rules.specs.Stage.{share, depth_before, depth_behind, flow_before, flow_behind, carried, gauss, push, tilt, update}
use Rattle.rules.specs.Finishing.{beyond, clipped, cut, dried}
use Rattle.rules.specs.Step.{rub, rubbed_cell, joined_cell}
use Rattle.rules.proofs.Laws.Speeds.{speed_odd}
use Rattle.rules.proofs.Laws.Shown.{volume_flip}
use Rattle.survey.specs.Turned.{turned_cell}
use Rattle.survey.proofs.Laws.CellTwice.{cell_is, cell_twice}
use Rattle.survey.proofs.Laws.Signs.{share_odd, carried_even, half_odd, slowed_odd, drag_even, clipped_odd, beyond_even}

-- the bed under it
abbrev pub turned_bed : Bed → Bed
turned_bed b = record { zl = b.zr; zr = b.zl }

-- turned twice it is the cell itself: so what shows the g of a cell there shows the f of it here
from_there : {A : Type 0} (f g : Bed → Cell → A) → ((b : Bed) (x : Cell) → f (turned_bed b) (turned_cell x) ≡ g b x)
    → (b : Bed) (x : Cell) → g (turned_bed b) (turned_cell x) ≡ f b x
from_there f g h b x = sym (h (turned_bed b) (turned_cell x)) ∙ ap (f b) (cell_twice x)

-- a level between what comes in and what goes out, which change places and signs
between_turned : (e p q : ℤ) → e +ℤ neg_ℤ q -ℤ neg_ℤ p ≡ e +ℤ p -ℤ q
between_turned e p q = eq! (at e ⊞ ⊖ (at q) ⊟ ⊖ (at p)) (at e ⊞ at p ⊟ at q) (omega arith)

-- ---- bed and depths
z0_turned : (b : Bed) → z0 (turned_bed b) ≡ z0 b
unfolding z0
z0_turned b = ap (λ (z : ℤ). quot_z z (pos 2)) (+ℤ_comm b.zr b.zl)

z1_turned : (b : Bed) → z1 (turned_bed b) ≡ neg_ℤ (z1 b)
unfolding z1
z1_turned b = quot_odd (b.zr -ℤ b.zl) (pos 2) (sub_swap b.zl b.zr)

pub h0_turned : (b : Bed) (x : Cell) → h0 (turned_bed b) (turned_cell x) ≡ h0 b x
unfolding h0
h0_turned b x = ap (λ (z : ℤ). x.e0 -ℤ z) (z0_turned b)

h1_turned : (b : Bed) (x : Cell) → h1 (turned_bed b) (turned_cell x) ≡ neg_ℤ (h1 b x)
unfolding h1
h1_turned b x = ap (λ (z : ℤ). neg_ℤ x.e1 -ℤ z) (z1_turned b) ∙ neg_sub x.e1 (z1 b)

pub hl_turned : (b : Bed) (x : Cell) → hl (turned_bed b) (turned_cell x) ≡ hr b x
unfolding hl hr
hl_turned b x = ap₂ ◌-ℤ◌ (h0_turned b x) (h1_turned b x) ∙ sub_neg (h0 b x) (h1 b x)

pub hr_turned : (b : Bed) (x : Cell) → hr (turned_bed b) (turned_cell x) ≡ hl b x
hr_turned = from_there hl hr hl_turned

pub ql_turned : (x : Cell) → ql (turned_cell x) ≡ neg_ℤ (qr x)
ql_turned x = neg_less x.q0 x.q1

pub qr_turned : (x : Cell) → qr (turned_cell x) ≡ neg_ℤ (ql x)
qr_turned x = neg_more x.q0 x.q1

-- ---- the side that it shows
pub side_l_turned : (d : ℤ) (b : Bed) (x : Cell) → side_l d (turned_bed b) (turned_cell x) ≡ mirror (side_r d b x)
unfolding side_l side_r
side_l_turned d b x = let h = hl_turned b x in
    let u = ap₂ (speed d) (ql_turned x) h ∙ speed_odd d (qr x) (hr b x) in λ m. record { h = h m; u = u m }

-- ---- the Gauss points
depth_before_turned : (b : Bed) (x : Cell) → depth_before (turned_bed b) (turned_cell x) ≡ depth_behind b x
depth_before_turned b x = ap₂ (λ (p q : ℤ). p -ℤ share q) (h0_turned b x) (h1_turned b x)
    ∙ ap (λ (z : ℤ). h0 b x -ℤ z) (share_odd (h1 b x)) ∙ sub_neg (h0 b x) (share (h1 b x))

depth_behind_turned : (b : Bed) (x : Cell) → depth_behind (turned_bed b) (turned_cell x) ≡ depth_before b x
depth_behind_turned = from_there depth_before depth_behind depth_before_turned

flow_before_turned : (x : Cell) → flow_before (turned_cell x) ≡ neg_ℤ (flow_behind x)
flow_before_turned x = neg_less x.q0 (share x.q1)

flow_behind_turned : (x : Cell) → flow_behind (turned_cell x) ≡ neg_ℤ (flow_before x)
flow_behind_turned x = neg_more x.q0 (share x.q1)

-- a number or a test of the flow and the depth at a point that does not mind the flow's direction: of both points together
module _ {A : Type 0} (f : ℤ → ℤ → A) (even : (q h : ℤ) → f (neg_ℤ q) h ≡ f q h) (b : Bed) (x : Cell) where
  pub before_turned : f (flow_before (turned_cell x)) (depth_before (turned_bed b) (turned_cell x)) ≡ f (flow_behind x) (depth_behind b x)
  before_turned = ap₂ f (flow_before_turned x) (depth_before_turned b x) ∙ even (flow_behind x) (depth_behind b x)

  pub behind_turned : f (flow_behind (turned_cell x)) (depth_behind (turned_bed b) (turned_cell x)) ≡ f (flow_before x) (depth_before b x)
  behind_turned = ap₂ f (flow_behind_turned x) (depth_behind_turned b x) ∙ even (flow_before x) (depth_before b x)

gauss_turned : (d : ℤ) (b : Bed) (x : Cell) → gauss d (turned_bed b) (turned_cell x) ≡ gauss d b x
unfolding gauss
gauss_turned d b x =
    let p = carried d (flow_before x) (depth_before b x) in let q = carried d (flow_behind x) (depth_behind b x) in
    ap₂ ◌+ℤ◌ (before_turned (carried d) (carried_even d) b x) (behind_turned (carried d) (carried_even d) b x)
    ∙ +ℤ_comm q p

-- ---- the stage
module _ (b : Bed) (x : Cell) (l f : Flux) where
  push_turned : push (turned_bed b) (turned_cell x) (flip f) (flip l) ≡ neg_ℤ (push b x l f)
  unfolding push
  push_turned = let p = hl b x in let q = hr b x in
      ap (λ (z : ℤ). f.K -ℤ l.K -ℤ z *ℤ (b.zl -ℤ b.zr)) (ap₂ ◌+ℤ◌ (hr_turned b x) (hl_turned b x))
      ∙ eq! (at f.K ⊟ at l.K ⊟ (at p ⊞ at q) ⊠ (at b.zl ⊟ at b.zr))
      (⊖ (at l.K ⊟ at f.K ⊟ (at q ⊞ at p) ⊠ (at b.zr ⊟ at b.zl))) (omega arith)

  tilt_turned : tilt (turned_bed b) (turned_cell x) (flip f) (flip l) ≡ tilt b x l f
  unfolding tilt
  tilt_turned = (λ m. of (h0_turned b x m) (h1_turned b x m) (z1_turned b m)) ∙ solve (l.K ∷ f.K ∷ h0 b x ∷ h1 b x ∷ z1 b ∷ [])
      (k (pos 3) ⊗ v 0 ⊕ k (pos 3) ⊗ v 1 ⊝ k (pos 6) ⊗ (v 2 ⊗ v 2) ⊝ k (pos 2) ⊗ (neg (v 3) ⊗ neg (v 3))
      ⊕ k (pos 4) ⊗ (neg (v 3) ⊗ neg (v 4)))
      (k (pos 3) ⊗ v 1 ⊕ k (pos 3) ⊗ v 0 ⊝ k (pos 6) ⊗ (v 2 ⊗ v 2) ⊝ k (pos 2) ⊗ (v 3 ⊗ v 3) ⊕ k (pos 4) ⊗ (v 3 ⊗ v 4)) tt
    where
      of : ℤ → ℤ → ℤ → ℤ
      of h d z = pos 3 *ℤ l.K +ℤ pos 3 *ℤ f.K -ℤ pos 6 *ℤ (h *ℤ h) -ℤ pos 2 *ℤ (d *ℤ d) +ℤ pos 4 *ℤ (d *ℤ z)

  pub update_turned : (dx t d : ℤ) → update dx t d (turned_bed b) (turned_cell x) (flip f) (flip l) ≡ turned_cell (update dx t d b x l f)
  unfolding update
  update_turned dx t d = cell_is (update dx t d (turned_bed b) (turned_cell x) (flip f) (flip l)) (turned_cell (update dx t d b x l f))
      level level_slope discharge discharge_slope
    where
      level : x.e0 +ℤ volume dx t (flip f) -ℤ volume dx t (flip l) ≡ x.e0 +ℤ volume dx t l -ℤ volume dx t f
      level = ap₂ (λ (y z : ℤ). x.e0 +ℤ y -ℤ z) (volume_flip dx t f) (volume_flip dx t l)
          ∙ between_turned x.e0 (volume dx t l) (volume dx t f)

      level_slope : neg_ℤ x.e1 -ℤ quot_z (pos 3 *ℤ (neg_ℤ l.F +ℤ neg_ℤ f.F -ℤ pos 2 *ℤ neg_ℤ x.q0) *ℤ t) dx
          ≡ neg_ℤ (x.e1 -ℤ quot_z (pos 3 *ℤ (f.F +ℤ l.F -ℤ pos 2 *ℤ x.q0) *ℤ t) dx)
      level_slope = let n = pos 3 *ℤ (f.F +ℤ l.F -ℤ pos 2 *ℤ x.q0) *ℤ t in
          ap (λ (z : ℤ). neg_ℤ x.e1 -ℤ z) (quot_odd n dx
          (eq! (lit 3 ⊠ (⊖ (at l.F) ⊞ ⊖ (at f.F) ⊟ lit 2 ⊠ ⊖ (at x.q0)) ⊠ at t)
          (⊖ (lit 3 ⊠ (at f.F ⊞ at l.F ⊟ lit 2 ⊠ at x.q0) ⊠ at t)) (omega arith)))
          ∙ neg_sub x.e1 (quot_z n dx)

      discharge : neg_ℤ x.q0 +ℤ quot_z ((f.A -ℤ l.A) *ℤ t) dx
          +ℤ quot_z (pos 981 *ℤ push (turned_bed b) (turned_cell x) (flip f) (flip l) *ℤ t) (pos 819200 *ℤ dx)
          ≡ neg_ℤ (x.q0 +ℤ quot_z ((l.A -ℤ f.A) *ℤ t) dx +ℤ quot_z (pos 981 *ℤ push b x l f *ℤ t) (pos 819200 *ℤ dx))
      discharge = let n = (l.A -ℤ f.A) *ℤ t in let e = push b x l f in let m = pos 981 *ℤ e *ℤ t in
          ap₂ (λ (y z : ℤ). neg_ℤ x.q0 +ℤ y +ℤ z)
          (quot_odd n dx (eq! ((at f.A ⊟ at l.A) ⊠ at t) (⊖ ((at l.A ⊟ at f.A) ⊠ at t)) (omega arith)))
          (quot_odd m (pos 819200 *ℤ dx) (ap (λ (z : ℤ). pos 981 *ℤ z *ℤ t) push_turned
          ∙ eq! (lit 981 ⊠ ⊖ (at e) ⊠ at t) (⊖ (lit 981 ⊠ at e ⊠ at t)) (omega arith)))
          ∙ ap (λ (z : ℤ). z +ℤ neg_ℤ (quot_z m (pos 819200 *ℤ dx))) (neg_add x.q0 (quot_z n dx))
          ∙ neg_add (x.q0 +ℤ quot_z n dx) (quot_z m (pos 819200 *ℤ dx))

      discharge_slope : x.q1 -ℤ quot_z (pos 3 *ℤ (l.A +ℤ f.A -ℤ gauss d (turned_bed b) (turned_cell x)) *ℤ t) dx
          -ℤ quot_z (pos 981 *ℤ tilt (turned_bed b) (turned_cell x) (flip f) (flip l) *ℤ t) (pos 819200 *ℤ dx)
          ≡ x.q1 -ℤ quot_z (pos 3 *ℤ (f.A +ℤ l.A -ℤ gauss d b x) *ℤ t) dx -ℤ quot_z (pos 981 *ℤ tilt b x l f *ℤ t) (pos 819200 *ℤ dx)
      discharge_slope = let both = +ℤ_comm l.A f.A in λ m.
          x.q1 -ℤ quot_z (pos 3 *ℤ (both m -ℤ gauss_turned d b x m) *ℤ t) dx -ℤ quot_z (pos 981 *ℤ tilt_turned m *ℤ t) (pos 819200 *ℤ dx)

-- ---- finishing, where the mean is not below nought
pub shallow_turned : (d : ℤ) (b : Bed) (x : Cell) → shallow d (turned_bed b) (turned_cell x) ≡ shallow d b x
shallow_turned d b x = ap (λ (h : ℤ). le_z h d) (h0_turned b x)

module _ (b : Bed) (x : Cell) where
  pub cut_turned : pos 0 ≤ℤ h0 b x → cut (turned_bed b) (turned_cell x) ≡ turned_cell (cut b x)
  unfolding cut
  cut_turned h = let m = h0 b x in let d = h1 b x in
      cell_is (cut (turned_bed b) (turned_cell x)) (turned_cell (cut b x)) refl
      (ap₂ ◌+ℤ◌ (ap₂ clipped (h0_turned b x) (h1_turned b x) ∙ clipped_odd m d h) (z1_turned b) ∙ neg_add (clipped m d) (z1 b))
      refl
      (ap (λ (t : Bool). cond t (pos 0) x.q1) (ap₂ beyond (h0_turned b x) (h1_turned b x) ∙ beyond_even m d))

  pub dried_turned : (d : ℤ) → dried d (turned_bed b) (turned_cell x) ≡ turned_cell (dried d b x)
  unfolding dried
  dried_turned d = cell_is (dried d (turned_bed b) (turned_cell x)) (turned_cell (dried d b x)) refl refl
      (ap (λ (t : Bool). cond t (pos 0) (neg_ℤ x.q0)) (shallow_turned d b x) ∙ cond_map neg_ℤ (shallow d b x) (pos 0) x.q0)
      (ap (λ (t : Bool). cond t (pos 0) x.q1) (shallow_turned d b x))

  -- ---- friction
  rub_turned : (t d f q : ℤ) → rub t d f (turned_bed b) (turned_cell x) q ≡ rub t d f b x q
  unfolding rub
  rub_turned t d f q = ap (λ (h : ℤ). cond (le_z h d) q (slowed (drag t f h (speed d (neg_ℤ x.q0) h)) q)) (h0_turned b x)
      ∙ ap (λ (m : ℤ). cond (shallow d b x) q (slowed m q)) (drag_even t f (h0 b x) x.q0 d)

  rub_odd : (t d f q : ℤ) → rub t d f b x (neg_ℤ q) ≡ neg_ℤ (rub t d f b x q)
  unfolding rub
  rub_odd t d f q = let m = drag t f (h0 b x) (speed d x.q0 (h0 b x)) in
      ap (cond (shallow d b x) (neg_ℤ q)) (slowed_odd m q) ∙ cond_map neg_ℤ (shallow d b x) q (slowed m q)

  pub rubbed_turned : (t d f : ℤ) → rubbed_cell t d f (turned_bed b) (turned_cell x) ≡ turned_cell (rubbed_cell t d f b x)
  unfolding rubbed_cell
  rubbed_turned t d f = cell_is (rubbed_cell t d f (turned_bed b) (turned_cell x)) (turned_cell (rubbed_cell t d f b x)) refl refl
      (rub_turned t d f (neg_ℤ x.q0) ∙ rub_odd t d f x.q0) (rub_turned t d f x.q1)

-- ---- the end of a step, between what W carries at the two faces
pub joined_turned : (x y : Cell) (p q : ℤ)
    → joined_cell (turned_cell x) (turned_cell y) (neg_ℤ q) (neg_ℤ p) ≡ turned_cell (joined_cell x y p q)
unfolding joined_cell
joined_turned x y p q = cell_is (joined_cell (turned_cell x) (turned_cell y) (neg_ℤ q) (neg_ℤ p)) (turned_cell (joined_cell x y p q))
    (between_turned x.e0 p q) (half_odd x.e1 y.e1) (half_odd x.q0 y.q0) refl
