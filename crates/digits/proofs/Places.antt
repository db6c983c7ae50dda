-- Where a number and its digits stand: the places of the turns, and the pairs of nought that are passed over. Assumes nothing.
use mathlib.Core.Path.{◌≡◌, refl, sym, ap, ◌∙◌}
use Prim.Native.Nat.{ℕ, zero, suc, ◌+◌, ◌-◌, ◌*◌, ◌/◌, ◌%◌, ◌^◌, ◌≤◌, ◌<◌}
use native.Mathlib.Nat.{mul_assoc, mod-eq_of_lt, div-eq_of_eq-mul_left, div-lt_iff_lt-mul, mul-add-div_right, mul-div_cancel}
use native.Mathlib.Decide.{dec_le}
use native.Mathlib.Omega.{arith}
use lib.Count.{count_leading_zeros, leading_length}
use lib.Ieee.Nearest.{div_same}
use lib.Pow.{pow-add, pow_pos, pow_mono, shl_lt}
use Rattle.digits.specs.Root.{RootOf}
use Rattle.digits.proofs.WholeRoot.{root_by}
use Rattle.digits.proofs.Turns.{End}

-- a pair is two bits
four : (n : ℕ) → 2 ^ (2 * n) ≡ 4 ^ n
four zero = refl
four (suc n) =
    ap (λ (x : ℕ). 2 ^ x) (let e : 2 * suc n ≡ 2 * n + 2 = omega arith in e) ∙ pow-add 2 (2 * n) 2 ∙ ap (λ (x : ℕ). x * 4) (four n)
    ∙ sym (pow-add 4 n 1) ∙ ap (λ (x : ℕ). 4 ^ x) (let e : n + 1 ≡ suc n = omega arith in e)

-- ---- the last place of some turns from the first one, 2 ^ 61, and the unit of the root there
module _ (turns : ℕ) (l : turns ≤ 61) where
  -- the places below the last
  abbrev below : ℕ
  below = 61 - turns

  pub first_is : 2 ^ 61 ≡ 2 ^ below * 2 ^ turns
  first_is = ap (λ (x : ℕ). 2 ^ x) (let e : 61 ≡ below + turns = omega arith in e) ∙ pow-add 2 below turns

  pub last_is : 2 ^ 61 / 2 ^ turns ≡ 2 ^ below
  last_is = div-eq_of_eq-mul_left (pow_pos turns) first_is

  unit_is : 2 ^ (63 - turns) ≡ 4 * 2 ^ below
  unit_is = ap (λ (x : ℕ). 2 ^ x) (let e : 63 - turns ≡ 2 + below = omega arith in e) ∙ pow-add 2 2 below

  -- the first pairs of a number, over the unit
  so_far : (number : ℕ) → number * 4 ^ turns / 4 ^ 31 ≡ 2 ^ turns * (number * 2) / (4 * 2 ^ below)
  so_far number =
      div_same (number * 4 ^ turns) (4 ^ 31) (2 ^ turns * (number * 2)) (4 * 2 ^ below) (omega arith) (omega (arith, pow_pos below))
      (ap (λ (x : ℕ). number * x * (4 * 2 ^ below)) (sym (four turns) ∙ twice_turns)
      ∙ across number (2 ^ turns) (2 ^ below) first_is)
    where
      twice_turns : 2 ^ (2 * turns) ≡ 2 ^ turns * 2 ^ turns
      twice_turns = ap (λ (x : ℕ). 2 ^ x) (let e : 2 * turns ≡ turns + turns = omega arith in e) ∙ pow-add 2 turns turns

      across : (n p q : ℕ) → 2 ^ 61 ≡ q * p → n * (p * p) * (4 * q) ≡ p * (n * 2) * 4 ^ 31
      across n p q e = let f : n * p * (2 ^ 61) ≡ n * p * (q * p) = ap (λ (x : ℕ). n * p * x) e in omega (arith, f)

  pub found : (number twice rest : ℕ) → End (2 ^ turns * (number * 2)) (4 * 2 ^ below) twice rest
      → RootOf (number * 4 ^ turns / 4 ^ 31) (twice / 2 ^ (63 - turns)) (rest / 2 ^ (63 - turns))
  found number twice rest a =
      let u = 4 * 2 ^ below in
      let p : 0 < u = omega (arith, pow_pos below) in
      let d : twice / u ≡ a.w = div-eq_of_eq-mul_left p a.root in
      let z : a.w * a.w + rest / u ≡ number * 4 ^ turns / 4 ^ 31 =
      sym (mul-add-div_right p (a.w * a.w) rest) ∙ ap (λ (x : ℕ). x / u) (sym a.whole) ∙ sym (so_far number) in
      let m : rest / u < 2 * a.w + 1 = (div-lt_iff_lt-mul p).1 a.most in
      rw (unit_is, d) (root_by (number * 4 ^ turns / 4 ^ 31) a.w (rest / u) z (omega arith))

-- ---- the pairs of nought above the first that is not, in a number of 31 pairs
module _ (number : ℕ) (l : number < 4 ^ 31) where
  abbrev zeros : ℕ
  zeros = count_leading_zeros 64 number

  abbrev above : ℕ
  above = (count_leading_zeros 64 number - 2) / 2

  -- its length in bits
  length : (m : ℕ) × (zeros + m ≡ 64) × (m ≤ 62) × (number < 2 ^ m)
  length = let w = leading_length 64 number (omega arith) in (w.0, w.1, short w.0 w.3 (dec_le w.0 62), w.2)
    where
      short : (m : ℕ) → 2 ^ m ≤ 2 * number + 1 → Dec (m ≤ 62) → m ≤ 62
      short m k (yes d) = d
      short m k (no d) = let z : ⊥ = omega (arith, pow_mono {i = 63} {j = m} (omega arith)) in absurd z

  pub zeros_in : (2 ≤ zeros) × (zeros ≤ 64)
  zeros_in = let e = length.1 in let k = length.2 in omega arith

  pub raised : number * 2 ^ (2 * above) < 4 ^ 31
  raised =
      let m = length.0 in let e = length.1 in let k = length.2 in
      let a : m + 2 * above ≤ 62 = omega arith in
      let s : number * 2 ^ (2 * above) < 2 ^ (m + 2 * above) = shl_lt m (2 * above) length.3 in
      omega (arith, s, pow_mono {i = m + 2 * above} {j = 62} a)

  pub shifted : (number * 2 ^ (2 * above)) % 2 ^ 64 ≡ number * 2 ^ (2 * above)
  shifted = mod-eq_of_lt (omega (arith, raised))

  -- the first pairs of the raised number are all its pairs, and its noughts
  pub all_pairs : (noughts : ℕ) → number * 2 ^ (2 * above) * 4 ^ (31 - above + noughts) / 4 ^ 31 ≡ number * 4 ^ noughts
  all_pairs noughts =
      let e = length.1 in let k = length.2 in
      let t : above + (31 - above + noughts) ≡ noughts + 31 = omega arith in
      ap (λ (x : ℕ). x / 4 ^ 31) (
      ap (λ (x : ℕ). number * x * 4 ^ (31 - above + noughts)) (four above) ∙ mul_assoc number (4 ^ above) (4 ^ (31 - above + noughts))
      ∙ ap (λ (x : ℕ). number * x) (sym (pow-add 4 above (31 - above + noughts)) ∙ ap (λ (x : ℕ). 4 ^ x) t ∙ pow-add 4 noughts 31)
      ∙ sym (mul_assoc number (4 ^ noughts) (4 ^ 31))
      )
      ∙ mul-div_cancel (number * 4 ^ noughts) (omega arith)
