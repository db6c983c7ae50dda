-- Truth values: what a test that holds, or fails, says; and choices by one.
-- Assumes nothing.
use Rattle.std.specs.Prelude.{◌≡◌, refl, Bool, true, false, not, cond, ◌||◌, ◌&&◌, T}
use Rattle.std.proofs.Common.{sym, subst}

-- ---- between `T b` and `b ≡ true`
pub holds : (b : Bool) → T b → b ≡ true
holds true t = refl
holds false t = absurd t

pub held : (b : Bool) → b ≡ true → T b
held b e = subst T (sym e) tt

pub fails : (b : Bool) → (T b → ⊥) → b ≡ false
fails true f = absurd (f tt)
fails false f = refl

pub failed : (b : Bool) → b ≡ false → T (not b)
failed b e = subst (λ (c : Bool). T (not c)) (sym e) tt

pub clash {ℓ} : {P : Type ℓ} → false ≡ true → P
clash e = absurd (subst T (sym e) tt)

-- ---- what a compound says of its parts
pub or_l : (a b : Bool) → (a || b) ≡ false → a ≡ false
or_l true b e = clash (sym e)
or_l false b e = refl

pub or_r : (a b : Bool) → (a || b) ≡ false → b ≡ false
or_r true b e = clash (sym e)
or_r false b e = e

pub not_f : (b : Bool) → not b ≡ false → b ≡ true
not_f true e = refl
not_f false e = clash (sym e)

pub and_l : (a b : Bool) → (a && b) ≡ true → a ≡ true
and_l true b e = refl
and_l false b e = clash e

pub and_r : (a b : Bool) → (a && b) ≡ true → b ≡ true
and_r true b e = e
and_r false b e = clash e

-- what a function that tries one test and then another answers
pub or_last : (b : Bool) → b ≡ (b || false)
or_last true = refl
or_last false = refl

pub or_true : (b : Bool) → (b || true) ≡ true
or_true true = refl
or_true false = refl

-- the same of `T`, where the test computes
pub fst : (a b : Bool) → T (a && b) → T a
fst true b t = tt
fst false b t = t

pub snd : (a b : Bool) → T (a && b) → T b
snd true b t = t
snd false b t = absurd t

-- ---- choices
pub cond_ind : {A : Type 0} (b : Bool) (x y : A) (P : A → Type 0) → (b ≡ true → P x) → (b ≡ false → P y) → P (cond b x y)
cond_ind true x y P f g = f refl
cond_ind false x y P f g = g refl

pub by : {P : Type 0} (b : Bool) → (b ≡ true → P) → (b ≡ false → P) → P
by true f g = f refl
by false f g = g refl

-- a function of a choice is the choice between its values
pub cond_map : {A B : Type 0} (f : A → B) (b : Bool) (x y : A) → cond b (f x) (f y) ≡ f (cond b x y)
cond_map f true x y = refl
cond_map f false x y = refl

pub cond_same : {A : Type 0} (b : Bool) (x y z : A) → x ≡ z → y ≡ z → cond b x y ≡ z
cond_same true x y z p q = p
cond_same false x y z p q = q
