-- The arithmetic of the turns: what is kept from one to the next, and what it comes to after the last. Assumes nothing.
use mathlib.Core.Path.{◌≡◌, refl, sym, ap, ◌∙◌, subst}
use Prim.Native.Nat.{ℕ, zero, suc, ◌+◌, ◌-◌, ◌*◌, ◌/◌, ◌^◌, ◌≤◌, ◌<◌}
use native.Mathlib.Nat.{mul_assoc, mul-le-mul_left, pow-suc}
use native.Mathlib.Omega.{arith}
use lib.Pow.{pow_pos}
use Rattle.digits.specs.Turns.{Small, Turned, nought, one}

-- After some turns: j more are to come, the next at the place `bit` and the last above the place `last`. w is the number that
-- the digits so far make, and `total` the number under the root, at the scale of what will be left after the last turn.
pub record Turning (total last bit twice rest : ℕ) : Type 0 where
  pub w : ℕ
  pub j : ℕ
  pub place : bit ≡ last * 2 ^ j
  pub root : twice ≡ 4 * (bit * w)
  pub whole : total ≡ 2 ^ j * (4 * (bit * (w * w)) + rest)
  pub small : Small bit twice rest

-- ---- before the first turn
pub start : (number turns last bit : ℕ) → bit ≡ last * 2 ^ turns → number < 2 * bit → 4 * bit ≤ 2 ^ 63
    → Turning (2 ^ turns * (number * 2)) last bit 0 (number * 2)
start number turns last bit e l m = record {
  w = 0;
  j = turns;
  place = e;
  root = omega arith;
  whole = ap (λ (x : ℕ). 2 ^ turns * x) (omega arith);
  small = record { most = omega arith; top = omega arith };
}

-- ---- one turn
-- a place above the last one is even
halves : (last j bit : ℕ) → bit ≡ last * 2 ^ j → last < bit → (i : ℕ) × (j ≡ suc i) × (bit ≡ last * 2 ^ i * 2)
halves last zero bit e h = let z : ⊥ = omega arith in absurd z
halves last (suc i) bit e h = (i, refl, e ∙ ap (λ (x : ℕ). last * x) (pow-suc 2 i) ∙ sym (mul_assoc last (2 ^ i) 2))

half : (bit c : ℕ) → bit ≡ c * 2 → bit / 2 ≡ c
half bit c e = omega arith

-- over plain numbers: p is the power of the turns after this one, c half of the place, d what a one leaves
as_nought : (p c w rest : ℕ) → p * 2 * (4 * (c * 2 * (w * w)) + rest) ≡ p * (4 * (c * (w * 2 * (w * 2))) + rest * 2)
as_nought p c w rest = omega arith

as_one : (p c w d : ℕ) → p * 2 * (4 * (c * 2 * (w * w)) + (4 * (c * 2 * w) + c * 2 + d))
    ≡ p * (4 * (c * ((w * 2 + 1) * (w * 2 + 1))) + d * 2)
as_one p c w d = omega arith

module _ {total last bit twice rest : ℕ} (t : Turning total last bit twice rest) (h : last < bit) where
  next : (i : ℕ) × (t.j ≡ suc i) × (bit ≡ last * 2 ^ i * 2)
  next = halves last t.j bit t.place h

  -- the turns after this one, and half of the place
  abbrev i : ℕ
  i = next.0

  abbrev c : ℕ
  c = last * 2 ^ next.0

  even : bit ≡ c * 2
  even = next.2

  root_is : twice ≡ 4 * (c * 2 * t.w)
  root_is = t.root ∙ ap (λ (x : ℕ). 4 * (x * t.w)) even

  total_is : total ≡ 2 ^ i * 2 * (4 * (c * 2 * (t.w * t.w)) + rest)
  total_is =
      t.whole
      ∙ ap (λ (x : ℕ). 2 ^ x * (4 * (bit * (t.w * t.w)) + rest)) next.1
      ∙ ap (λ (x : ℕ). x * (4 * (bit * (t.w * t.w)) + rest)) (pow-suc 2 i)
      ∙ ap (λ (x : ℕ). 2 ^ i * 2 * (4 * (x * (t.w * t.w)) + rest)) even

  after_nought : rest < twice + bit → Turning total last (bit / 2) twice (rest * 2)
  after_nought l =
      let r = root_is in let e = even in let m = t.small.most in let k = t.small.top in
      subst (λ (x : ℕ). Turning total last x twice (rest * 2)) (sym (half bit c even)) (record {
        w = t.w * 2;
        j = i;
        place = refl;
        root = omega arith;
        whole = total_is ∙ as_nought (2 ^ i) c t.w rest;
        small = record { most = omega arith; top = omega arith };
      })

  after_one : twice + bit ≤ rest → Turning total last (bit / 2) (twice + bit + bit) ((rest - (twice + bit)) * 2)
  after_one l =
      let r = root_is in let e = even in let m = t.small.most in let k = t.small.top in
      let d = rest - (twice + bit) in
      let s : rest ≡ 4 * (c * 2 * t.w) + c * 2 + d = omega arith in
      subst (λ (x : ℕ). Turning total last x (twice + bit + bit) (d * 2)) (sym (half bit c even)) (record {
        w = t.w * 2 + 1;
        j = i;
        place = refl;
        root = omega arith;
        whole = total_is ∙ ap (λ (x : ℕ). 2 ^ i * 2 * (4 * (c * 2 * (t.w * t.w)) + x)) s ∙ as_one (2 ^ i) c t.w d;
        small = record { most = omega arith; top = omega arith };
      })

  -- either digit keeps it
  pub again : {bit' twice' rest' : ℕ} → Turned bit twice rest bit' twice' rest' → Turning total last bit' twice' rest'
  again (nought l) = after_nought l
  again (one l) = after_one l

-- the place comes down
pub lower : {bit twice rest bit' twice' rest' : ℕ} → Turned bit twice rest bit' twice' rest' → 0 < bit → bit' < bit
lower (nought l) p = omega arith
lower (one l) p = omega arith

-- ---- after the last turn
ends : (last j bit : ℕ) → 0 < last → bit ≡ last * 2 ^ j → bit ≤ last → j ≡ 0
ends last zero bit p e h = refl
ends last (suc j) bit p e h =
    let f : bit ≡ last * 2 ^ j * 2 = e ∙ ap (λ (x : ℕ). last * x) (pow-suc 2 j) ∙ sym (mul_assoc last (2 ^ j) 2) in
    let g : last * 1 ≤ last * 2 ^ j = mul-le-mul_left last (pow_pos j) in
    let z : ⊥ = omega (arith, f, g) in absurd z

-- over the unit, four times the last place
pub record End (total unit twice rest : ℕ) : Type 0 where
  pub w : ℕ
  pub root : twice ≡ w * unit
  pub whole : total ≡ w * w * unit + rest
  pub most : rest < (2 * w + 1) * unit

pub end : {total last bit twice rest : ℕ} → Turning total last bit twice rest → 0 < last → bit ≤ last → End total (4 * last) twice rest
end {total} {last} {bit} {twice} {rest} t p h =
    let w = t.w in
    let e : t.j ≡ 0 = ends last t.j bit p t.place h in
    let b : bit ≡ last = t.place ∙ ap (λ (x : ℕ). last * 2 ^ x) e ∙ (let q : last * 1 ≡ last = omega arith in q) in
    let r : twice ≡ 4 * (last * w) = t.root ∙ ap (λ (x : ℕ). 4 * (x * w)) b in
    let m = t.small.most in record {
      w = t.w;
      root = omega arith;
      whole = t.whole ∙ ap (λ (x : ℕ). 2 ^ x * (4 * (bit * (w * w)) + rest)) e ∙ ap (λ (x : ℕ). 1 * (4 * (x * (w * w)) + rest)) b
          ∙ (let q : 1 * (4 * (last * (w * w)) + rest) ≡ w * w * (4 * last) + rest = omega arith in q);
      most = omega arith;
    }
