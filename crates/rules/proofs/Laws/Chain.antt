-- Any number of calls one after another, of any reach: what holds of each of them, said of them all. No reach is named here.
-- Assumes nothing.
use Rattle.std.specs.Prelude.{◌≡◌, refl, ℤ, pos, ◌+ℤ◌, ◌-ℤ◌}
use Rattle.std.proofs.Common.{sym, ◌∙◌, ap, ap₂, subst, arith}
use Rattle.whole.specs.Difference.{at, lit, ◌⊞◌, ◌⊟◌, eq! }
use Rattle.rules.specs.Laws.Chain.{Chain, stop, step}

module _ {S : Type 0} (Step : S → S → ℤ → ℤ → Type 0) where
  -- what each changes by w − v, they change by the sums of these
  pub chain_balanced : (f : S → ℤ) → ((s m : S) (w v : ℤ) → Step s m w v → f m ≡ f s +ℤ w -ℤ v)
      → {s t : S} {a b : ℤ} → Chain Step s t a b → f t ≡ f s +ℤ a -ℤ b
  chain_balanced f one (stop s) = eq! (at (f s)) (at (f s) ⊞ lit 0 ⊟ lit 0) (omega arith)
  chain_balanced f one (step s m t w v a b c k) =
      chain_balanced f one k ∙ ap (λ (x : ℤ). x +ℤ a -ℤ b) (one s m w v c)
      ∙ eq! (at (f s) ⊞ at w ⊟ at v ⊞ at a ⊟ at b) (at (f s) ⊞ (at w ⊞ at a) ⊟ (at v ⊞ at b)) (omega arith)

  -- what each keeps, they keep
  pub chain_keeps : (P : S → Type 0) → ((s m : S) (w v : ℤ) → Step s m w v → P s → P m)
      → {s t : S} {a b : ℤ} → Chain Step s t a b → P s → P t
  chain_keeps P one (stop s) p = p
  chain_keeps P one (step s m t w v a b c k) p = chain_keeps P one k (one s m w v c p)

  -- where each changes nothing and carries nothing, so do they all
  pub chain_still : (P : S → Type 0) → ((s m : S) (w v : ℤ) → Step s m w v → P s → (m ≡ s) × (w ≡ pos 0) × (v ≡ pos 0))
      → {s t : S} {a b : ℤ} → Chain Step s t a b → P s → (t ≡ s) × (a ≡ pos 0) × (b ≡ pos 0)
  chain_still P one (stop s) p = (refl, refl, refl)
  chain_still P one (step s m t w v a b c k) p =
      let z = one s m w v c p in let rest = chain_still P one k (subst P (sym z.0) p) in
      (rest.0 ∙ z.0, ap₂ ◌+ℤ◌ z.1 rest.1, ap₂ ◌+ℤ◌ z.2 rest.2)

-- calls that are also of another kind
pub chain_as : {S : Type 0} (Step Other : S → S → ℤ → ℤ → Type 0) → ((s m : S) (w v : ℤ) → Step s m w v → Other s m w v)
    → {s t : S} {a b : ℤ} → Chain Step s t a b → Chain Other s t a b
chain_as Step Other one (stop s) = stop s
chain_as Step Other one (step s m t w v a b c k) = step s m t w v a b (one s m w v c) (chain_as Step Other one k)
