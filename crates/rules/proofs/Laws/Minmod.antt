-- The limiter has no side and no sign: minmod takes the lesser of what its arguments have above nought, and of what they have below. So it
-- turns with their signs, and it does not matter which neighbour a slope is held to first.
-- Assumes nothing.
use Rattle.std.specs.Prelude.{◌≡◌, refl, false, cond, ◌&&◌, ℕ, zero, suc, min, eqb, ℤ, pos, neg_ℤ, ◌-ℤ◌, ◌≤ℤ◌}
use Rattle.std.proofs.Common.{◌∙◌, arith}
use Rattle.std.specs.Int.Signed.{le_z, lt_z}
use Rattle.whole.specs.Flags.{by, cond_ind, and_l, and_r}
use Rattle.whole.specs.Parts.{up, dn, up_neg, dn_neg, of_le, of_lt, eq_of, lt_le, dn_zero, up_zero}
use Rattle.whole.specs.Tests.{le_yes, le_no, lt_yes, lt_no}
use Rattle.whole.specs.Choice.{min_z, max_z}
use Rattle.rules.specs.Reach.{Reach}
use Rattle.rules.specs.Finishing.{minmod, with_right, with_left, limited}

-- z has above nought what the lesser of a and b has there, and likewise below
record Least (a b z : ℤ) : Type 0 where
  above : up z ≡ min (up a) (up b)
  below : dn z ≡ min (dn a) (dn b)

-- of two that are not below nought, or not above it
least_above : (a b : ℤ) → pos 0 ≤ℤ a → pos 0 ≤ℤ b → Least a b (min_z a b)
unfolding min_z
least_above a b p q = cond_ind (le_z a b) a b (Least a b)
    (λ e. record { above = omega (arith, of_le (le_yes a b e), dn_zero p, dn_zero q); below = omega (arith, dn_zero p, dn_zero q) })
    (λ e. record { above = omega (arith, of_lt (le_no a b e), dn_zero p, dn_zero q); below = omega (arith, dn_zero p, dn_zero q) })

least_below : (a b : ℤ) → a ≤ℤ pos 0 → b ≤ℤ pos 0 → Least a b (max_z a b)
unfolding max_z
least_below a b p q = cond_ind (le_z a b) b a (Least a b)
    (λ e. record { above = omega (arith, up_zero p, up_zero q); below = omega (arith, of_le (le_yes a b e), up_zero p, up_zero q) })
    (λ e. record { above = omega (arith, up_zero p, up_zero q); below = omega (arith, of_lt (le_no a b e), up_zero p, up_zero q) })

minmod_least : (a b : ℤ) → Least a b (minmod a b)
unfolding minmod
minmod_least a b = let p = lt_z (pos 0) a in let q = lt_z (pos 0) b in let s = lt_z a (pos 0) in let t = lt_z b (pos 0) in
    cond_ind (p && q) (min_z a b) (cond (s && t) (max_z a b) (pos 0)) (Least a b)
    (λ e. least_above a b (lt_le (lt_yes (pos 0) a (and_l p q e))) (lt_le (lt_yes (pos 0) b (and_r p q e))))
    (λ e. cond_ind (s && t) (max_z a b) (pos 0) (Least a b)
    (λ f. least_below a b (lt_le (lt_yes a (pos 0) (and_l s t f))) (lt_le (lt_yes b (pos 0) (and_r s t f))))
    (λ f. record { above = none_above e; below = none_below f }))
  where
    none_above : (lt_z (pos 0) a && lt_z (pos 0) b) ≡ false → 0 ≡ min (up a) (up b)
    none_above e = by (lt_z (pos 0) a)
        (λ d. omega (arith, up_zero (lt_no (pos 0) b (rw d at e)))) (λ d. omega (arith, up_zero (lt_no (pos 0) a d)))

    none_below : (lt_z a (pos 0) && lt_z b (pos 0)) ≡ false → 0 ≡ min (dn a) (dn b)
    none_below e = by (lt_z a (pos 0))
        (λ d. omega (arith, dn_zero (lt_no b (pos 0) (rw d at e)))) (λ d. omega (arith, dn_zero (lt_no a (pos 0) d)))

-- there is one such number
one_least : {a b z y : ℤ} → Least a b z → Least a b y → z ≡ y
one_least {z = z} {y} p q = eq_of z y (omega (arith, p.above, p.below, q.above, q.below))

pub minmod_odd : (a b : ℤ) → minmod (neg_ℤ a) (neg_ℤ b) ≡ neg_ℤ (minmod a b)
minmod_odd a b = let m = minmod_least a b in one_least (minmod_least (neg_ℤ a) (neg_ℤ b)) (record {
  above = omega (arith, up_neg (minmod a b), m.below, up_neg a, up_neg b);
  below = omega (arith, dn_neg (minmod a b), m.above, dn_neg a, dn_neg b);
})

minmod_swap : (x a b : ℤ) → minmod (minmod x a) b ≡ minmod (minmod x b) a
minmod_swap x a b = one_least (minmod_least (minmod x a) b) (record {
  above = (minmod_least (minmod x b) a).above ∙ swap (up x) (up a) (up b) (minmod_least x b).above (minmod_least x a).above;
  below = (minmod_least (minmod x b) a).below ∙ swap (dn x) (dn a) (dn b) (minmod_least x b).below (minmod_least x a).below;
})
  where
    swap : (k m n : ℕ) {y z : ℕ} → y ≡ min k n → z ≡ min k m → min y m ≡ min z n
    swap k m n p q = omega (arith, p, q)

-- a slope held to the right neighbour's mean and then to the left one's, or the other way round
pub either_first : (r : Reach) (m : ℕ → ℤ) (i : ℕ) (x : ℤ) → limited r m i x ≡ with_right r m i (with_left m i x)
unfolding limited with_left with_right
either_first r m zero x = refl
either_first r m (suc i) x = by (eqb (suc (suc i)) r.n) (λ e. rw e)
    (λ e. rw e (minmod_swap x (m (suc (suc i)) -ℤ m (suc i)) (m (suc i) -ℤ m i)))
