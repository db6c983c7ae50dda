use Rattle.std.proofs.Common.{◌≡◌, Bool, true, false, ℕ, ◌<◌, length, get_or, MatchBool, refl, sym, arith, rules, tests}
use Rattle.std.specs.List.{range_with_len, HoldsAt, AllWithin}
use Rattle.std.proofs.lemmas.Iterator.{cases_from_any, YieldsList-from_range}
use Rattle.std.proofs.lemmas.List.FromFn.{length-range_with_len, get_or-range_with_len}
use Rattle.tables.specs.Some.{some}
use Rattle.tables.proofs.Some.{none_some, yes_some}
use Rattle.rules.specs.Reach.{bed_at}
use Rattle.finishing.specs.Unfit.{too_large}
use Rattle.finishing.specs.UnfinishedTable.{state_of}
use Rattle.finishing.proofs.unfinished.UnfinishedTable.has_too_large.Goals as goal

-- what `any` says of a range is what `some` does
some_in : (p : ℕ → Bool) (n : ℕ) (found : Bool) → let all = range_with_len 0 n in
    MatchBool found ((k : ℕ) × (k < length all) × HoldsAt (λ i. p i ≡ true) all k) (AllWithin (λ i. p i ≡ false) all 0 (length all))
    → found ≡ some p n
some_in p n true (k, l, h) =
    let m : k < n = omega (arith, length-range_with_len 0 n) in
    let e : get_or (range_with_len 0 n) k 0 ≡ k = omega (arith, get_or-range_with_len 0 n k 0 m) in
    sym (yes_some p n k m (rw e at (h 0)))
some_in p n false h = sym (none_some p n (λ k m.
    let e : get_or (range_with_len 0 n) k 0 ≡ k = omega (arith, get_or-range_with_len 0 n k 0 m) in
    rw e at (h k 0 (omega arith) (omega (arith, length-range_with_len 0 n)))))

pub returns : goal.returns
returns c =
    let u = c.args.self in let n = u.reach.n in
    let large = λ (i : ℕ). too_large (bed_at u.bed.now i) (state_of u i) in
    some_in large n c.any.result
    (cases_from_any _ _ _ (λ (i : ℕ). large i ≡ true) (λ (i : ℕ). large i ≡ false) c.any.ensures.ran
    (YieldsList-from_range 0 n n refl (omega arith)) (λ x q k. search (rules, tests)) (λ x q k. search (rules, tests)))
