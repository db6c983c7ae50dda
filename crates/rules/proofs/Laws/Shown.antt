-- What a row of faces does to the cells between them, whatever reach shows the sides. Of the face rule only `bounds` and `still` are used,
-- and of an end no more than a row asks of it: so an end whose flux is given fits as well as one beside an outer side.
-- `keeps`: no cell loses more than it has. `none_crosses`: still water stays where it is.
-- Assumes nothing.
use Rattle.std.specs.Prelude.{◌≡◌, true, false, cond, T, eqb, ℤ, pos, neg_ℤ, ◌+ℤ◌, ◌-ℤ◌, ◌*ℤ◌, ◌≤ℤ◌, ◌<ℤ◌}
use Rattle.std.proofs.Math.Path.{sym, ap, ap₂, subst}
use Rattle.std.proofs.Common.{◌∙◌, eq-eqb, eqb→eq}
use Prim.Native.Nat.{ℕ, zero, suc, ◌-◌, ◌<◌}
use native.Mathlib.Omega.{arith}
use Rattle.std.proofs.Math.Dec.{eqb_refl}
use Rattle.whole.specs.Flags.{holds, held, clash, by, cond_ind}
use Rattle.whole.specs.Parts.{lt_le, cross}
use Rattle.whole.specs.Difference.{at, lit, nonneg, ◌⊞◌, ◌⊟◌, ⊖, ◌⊠◌, le!, eq!, le?, none_times}
use Rattle.whole.specs.Quotient.{mul_cancel_le, half_le, quot_odd, quot_none}
use Rattle.rules.specs.Face.{Side, Flux}
use Rattle.rules.specs.Lawful.{Still, resting, flip, Lawful}
use Rattle.rules.specs.Shown.{Shown, cross_right, cross_at, volume}

-- ---- which faces a cell has
pub inner : (i n : ℕ) → i < n → eqb i n ≡ true → ⊥
inner i n l e = let k : i ≡ n = eqb→eq i n (held (eqb i n) e) in omega arith

-- a cell that is not the last has a right neighbour
pub inside : (i n : ℕ) → i < n → eqb (suc i) n ≡ false → suc i < n
inside i n l e = omega (arith, differ)
  where
    differ : suc i ≡ n → ⊥
    differ d = clash (sym e ∙ holds (eqb (suc i) n) (subst (λ (m : ℕ). T (eqb (suc i) m)) d (eqb_refl (suc i))))

-- a choice between the last cell and the others
pub last : {A : Type 0} (i n : ℕ) → i < n → (x y x' y' : A) → x ≡ x' → (suc i < n → y ≡ y')
    → cond (eqb (suc i) n) x y ≡ cond (eqb (suc i) n) x' y'
last i n l x y x' y' p q = by (eqb (suc i) n) (λ e. rw e p) (λ e. rw e (q (inside i n l e)))

-- the last face is the right end, beside the last cell
pub at_last : (w : Shown) → 0 < w.n → cross_at w w.n ≡ w.right (w.to_right (w.n - 1))
unfolding cross_at cross_right
at_last w o = let last = w.n - 1 in let e : suc last ≡ w.n = omega arith in
    subst (λ (j : ℕ). cross_at w j ≡ w.right (w.to_right last)) e (rw (eq-eqb (suc last) w.n e))

-- rows that differ only in sides that do not count have one flux at each face
module _ (w : Shown) (a b : ℕ → Side) (p : (i : ℕ) → i < w.n → w.to_left i ≡ a i) (q : (i : ℕ) → i < w.n → w.to_right i ≡ b i) where
  abbrev between : Shown
  between = record { n = w.n; face = w.face; left = w.left; right = w.right; to_left = a; to_right = b }

  pub right_same : (i : ℕ) → i < w.n → cross_right w i ≡ cross_right between i
  unfolding cross_right
  right_same i l = last i w.n l (w.right (w.to_right i)) (w.face (w.to_right i) (w.to_left (suc i)))
      (w.right (b i)) (w.face (b i) (a (suc i))) (ap w.right (q i l)) (λ m. ap₂ w.face (q i l) (p (suc i) m))

  pub at_same : 0 < w.n → (i : ℕ) → i < suc w.n → cross_at w i ≡ cross_at between i
  unfolding cross_at
  at_same o zero l = ap w.left (p zero o)
  at_same o (suc i) l = right_same i (omega arith)

-- ---- one face
-- no more is taken from a depth h, rightward or leftward, than h times the top speed allows
pub record TakesRight (h : ℤ) (f : Flux) : Type 0 where
  pub size : pos 0 ≤ℤ f.S
  pub out : (pos 4096 *ℤ f.F) ≤ℤ (h *ℤ f.S)

pub record TakesLeft (h : ℤ) (f : Flux) : Type 0 where
  pub size : pos 0 ≤ℤ f.S
  pub back : neg_ℤ (h *ℤ f.S) ≤ℤ (pos 4096 *ℤ f.F)

-- each is the other seen from the other bank
pub takes_flip : {h : ℤ} {f : Flux} → TakesLeft h f → TakesRight h (flip f)
takes_flip {h} {f} t = record {
  size = t.size;
  out = le! (lit 4096 ⊠ ⊖ (at f.F)) (at h ⊠ at f.S) (omega (arith, le? (⊖ (at h ⊠ at f.S)) (lit 4096 ⊠ at f.F) t.back));
}

-- 2·dt·S is at most 4096·dx
abbrev pub InTime : ℤ → ℤ → Flux → Type 0
InTime dx dt f = (pos 2 *ℤ dt *ℤ f.S) ≤ℤ (pos 4096 *ℤ dx)

pub volume_flip : (dx dt : ℤ) (f : Flux) → volume dx dt (flip f) ≡ neg_ℤ (volume dx dt f)
unfolding volume
volume_flip dx dt f = quot_odd (f.F *ℤ dt) dx (eq! (⊖ (at f.F) ⊠ at dt) (⊖ (at f.F ⊠ at dt)) (omega arith))

module _ (dx dt : ℤ) (dx>0 : pos 0 <ℤ dx) (dt≥0 : pos 0 ≤ℤ dt) (h : ℤ) (h≥0 : pos 0 ≤ℤ h) where
  -- over a step that is short enough at most half of the depth is taken
  pub half_right : (f : Flux) → TakesRight h f → InTime dx dt f → (pos 2 *ℤ volume dx dt f) ≤ℤ h
  unfolding volume
  half_right f t brief = half_le (f.F *ℤ dt) dx h dx>0 h≥0
      (mul_cancel_le (pos 2 *ℤ (f.F *ℤ dt)) (h *ℤ dx) (pos 4096) (record { lt = tt })
      (let a = nonneg h≥0 in let b = nonneg dt≥0 in let s = nonneg t.size in let d = nonneg (lt_le dx>0) in let x = at f.F in
      le! (lit 2 ⊠ (x ⊠ b) ⊠ lit 4096) (a ⊠ d ⊠ lit 4096)
      (omega (
        arith,
        cross (le? (lit 0) b dt≥0) (le? (lit 4096 ⊠ x) (a ⊠ s) t.out),
        cross (le? (lit 0) a h≥0) (le? (lit 2 ⊠ b ⊠ s) (lit 4096 ⊠ d) brief),
      ))))

  pub half_left : (f : Flux) → TakesLeft h f → InTime dx dt f → neg_ℤ h ≤ℤ (pos 2 *ℤ volume dx dt f)
  half_left f t brief =
      let v = volume dx dt f in
      let m : (pos 2 *ℤ neg_ℤ v) ≤ℤ h = rw (volume_flip dx dt f) at (half_right (flip f) (takes_flip t) brief) in
      le! (⊖ (at h)) (lit 2 ⊠ at v) (omega (arith, le? (lit 2 ⊠ ⊖ (at v)) (at h) m))

-- a face that no mass crosses carries no volume
pub none_volume : (dx dt : ℤ) (f : Flux) → f.F ≡ pos 0 → volume dx dt f ≡ pos 0
unfolding volume
none_volume dx dt f e = quot_none (f.F *ℤ dt) dx (ap (λ (z : ℤ). z *ℤ dt) e ∙ none_times dt)

-- what a lawful rule takes from the two sides of a face
module _ (face : Side → Side → Flux) (law : Lawful face) (a b : Side) (a≥0 : pos 0 ≤ℤ a.h) (b≥0 : pos 0 ≤ℤ b.h) where
  pub face_right : TakesRight a.h (face a b)
  face_right = let k = law.bounds a b a≥0 b≥0 in record { size = k.size; out = k.out }

  pub face_left : TakesLeft b.h (face a b)
  face_left = let k = law.bounds a b a≥0 b≥0 in record { size = k.size; back = k.back }

-- ---- a row whose rule is lawful, whose ends take no more than their cell has, and which shows no depth below nought
pub record SoundRow (w : Shown) : Type 0 where
  pub law : Lawful w.face
  pub left : (x : Side) → pos 0 ≤ℤ x.h → TakesLeft x.h (w.left x)
  pub right : (x : Side) → pos 0 ≤ℤ x.h → TakesRight x.h (w.right x)
  pub to_left : (i : ℕ) → i < w.n → pos 0 ≤ℤ (w.to_left i).h
  pub to_right : (i : ℕ) → i < w.n → pos 0 ≤ℤ (w.to_right i).h

module _ (w : Shown) (ok : SoundRow w) where
  right_takes : (i : ℕ) → i < w.n → TakesRight (w.to_right i).h (cross_right w i)
  unfolding cross_right
  right_takes i l = let a = w.to_right i in let b = w.to_left (suc i) in
      cond_ind (eqb (suc i) w.n) (w.right a) (w.face a b) (TakesRight a.h)
      (λ e. ok.right a (ok.to_right i l))
      (λ e. face_right w.face ok.law a b (ok.to_right i l) (ok.to_left (suc i) (inside i w.n l e)))

  left_takes : (i : ℕ) → i < w.n → TakesLeft (w.to_left i).h (cross_at w i)
  unfolding cross_at cross_right
  left_takes zero l = ok.left (w.to_left zero) (ok.to_left zero l)
  left_takes (suc i) l = let a = w.to_right i in let b = w.to_left (suc i) in
      cond_ind (eqb (suc i) w.n) (w.right a) (w.face a b) (TakesLeft b.h) (λ e. absurd (inner (suc i) w.n l e))
      (λ e. face_left w.face ok.law a b (ok.to_right i (omega arith)) (ok.to_left (suc i) l))

  -- a cell whose two shown depths come to at most twice its mean depth m keeps a mean depth at or above nought
  module _ (dx dt : ℤ) (dx>0 : pos 0 <ℤ dx) (dt≥0 : pos 0 ≤ℤ dt) (brief : (i : ℕ) → i < suc w.n → InTime dx dt (cross_at w i)) where
    pub keeps : (i : ℕ) → i < w.n → (m : ℤ) → ((w.to_left i).h +ℤ (w.to_right i).h) ≤ℤ (pos 2 *ℤ m)
        → pos 0 ≤ℤ (m +ℤ volume dx dt (cross_at w i) -ℤ volume dx dt (cross_right w i))
    unfolding cross_at
    keeps i l m p =
        let a = (w.to_left i).h in let b = (w.to_right i).h in
        let x = volume dx dt (cross_at w i) in let y = volume dx dt (cross_right w i) in
        let q = half_right dx dt dx>0 dt≥0 b (ok.to_right i l) (cross_right w i) (right_takes i l) (brief (suc i) (omega arith)) in
        let d = half_left dx dt dx>0 dt≥0 a (ok.to_left i l) (cross_at w i) (left_takes i l) (brief i (omega arith)) in
        le! (lit 0) (at m ⊞ at x ⊟ at y)
        (omega (arith, le? (at a ⊞ at b) (lit 2 ⊠ at m) p, le? (lit 2 ⊠ at y) (at b) q, le? (⊖ (at a)) (lit 2 ⊠ at x) d))

-- ---- a row of still water: no side has a speed, the two at each inner face have one depth, and an end beside still water is still
pub record QuietRow (w : Shown) (a b : ℕ → ℤ) : Type 0 where
  pub law : Lawful w.face
  pub left : (h : ℤ) → pos 0 ≤ℤ h → Still h (w.left (resting h))
  pub right : (h : ℤ) → pos 0 ≤ℤ h → Still h (w.right (resting h))
  pub to_left : (i : ℕ) → i < w.n → w.to_left i ≡ resting (a i)
  pub to_right : (i : ℕ) → i < w.n → w.to_right i ≡ resting (b i)
  pub a≥0 : (i : ℕ) → i < w.n → pos 0 ≤ℤ a i
  pub b≥0 : (i : ℕ) → i < w.n → pos 0 ≤ℤ b i
  pub meet : (i : ℕ) → suc i < w.n → b i ≡ a (suc i)

module _ (w : Shown) (a b : ℕ → ℤ) (q : QuietRow w a b) where
  pub quiet_right : (i : ℕ) → i < w.n → Still (b i) (cross_right w i)
  unfolding cross_right
  quiet_right i l = let h = b i in
      cond_ind (eqb (suc i) w.n) (w.right (w.to_right i)) (w.face (w.to_right i) (w.to_left (suc i))) (Still h)
      (λ e. subst (λ (x : Side). Still h (w.right x)) (sym (q.to_right i l)) (q.right h (q.b≥0 i l)))
      (λ e. let m : suc i < w.n = inside i w.n l e in
      subst (λ (x : Side). Still h (w.face x (w.to_left (suc i)))) (sym (q.to_right i l))
      (subst (λ (x : Side). Still h (w.face (resting h) x)) (ap resting (q.meet i m) ∙ sym (q.to_left (suc i) m))
      (q.law.still h (q.b≥0 i l))))

  pub quiet_left : (i : ℕ) → i < w.n → Still (a i) (cross_at w i)
  unfolding cross_at
  quiet_left zero l = subst (λ (x : Side). Still (a zero) (w.left x)) (sym (q.to_left zero l)) (q.left (a zero) (q.a≥0 zero l))
  quiet_left (suc i) l = subst (λ (h : ℤ). Still h (cross_right w i)) (q.meet i l) (quiet_right i (omega arith))

  -- nothing crosses any face
  pub none_crosses : (dx dt : ℤ) → 0 < w.n → (i : ℕ) → i < suc w.n → volume dx dt (cross_at w i) ≡ pos 0
  unfolding cross_at
  none_crosses dx dt o zero l = none_volume dx dt (cross_at w zero) (quiet_left zero o).F≡
  none_crosses dx dt o (suc i) l = none_volume dx dt (cross_right w i) (quiet_right i (omega arith)).F≡
