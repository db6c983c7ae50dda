-- The level less the mean of the bed, each of 32 bits: 64 have room for it.
use Rattle.std.proofs.Common.{◌≡◌, ◌∙◌, ap, ap₂, List, [], ◌∷◌, ℕ, suc, ◌+◌, ◌-◌, ℤ, get_or, take, drop, pos, ◌-ℤ◌, ◌<◌, ◌^◌, rules, arith}
use Rattle.std.proofs.lemmas.List.{get_or-take, get_or-drop}
use Rattle.std.specs.Int.Signed.{mag}
use Rattle.whole.specs.Machine.{v, ◌⊝◌, Entry, entry, read32, within32, need, value}
use Rattle.rules.specs.Reach.{z0, bed_at}
use Rattle.sums.specs.Laws.Depths.{Word, mean_bed, level_less_bed, mean_depth}
use Rattle.sums.proofs.adding.depth.Goals as goal

-- of the two values that are lent, the bed at the cell's faces
module _ (bed : List ℤ) (i : ℕ) where
  abbrev two : List ℤ
  two = take (i + 2 - i) (drop i bed)

  value_is : (k j : ℕ) → k < 2 → i + k ≡ j → get_or two k (pos 0) ≡ get_or bed j (pos 0)
  value_is k j less at =
      get_or-take (i + 2 - i) (drop i bed) k (pos 0) (omega (arith, less)) ∙ get_or-drop i bed k (pos 0)
      ∙ ap (λ (n : ℕ). get_or bed n (pos 0)) at

  faces_are : bed_at two 0 ≡ bed_at bed i
  faces_are =
      let l = value_is 0 i (omega arith) (omega arith) in
      let r = value_is 1 (suc i) (omega arith) (omega arith) in
      λ j. record { zl = l j; zr = r j }

module _ (c : goal.After-z0) where
  abbrev level : ℤ
  level = get_or c.args.state.now c.args.i (pos 0)

  word : mag level < 2 ^ 31
  word = search rules

  level_is : c.from.result ≡ level
  level_is = c.from.ensures ∙ read32 level word

  level_in : Word c.from.result
  level_in = rw level_is (within32 word)

  mean_in : Word c.z0.result
  mean_in = rw c.z0.ensures (mean_bed _ (within32 (search rules)) (within32 (search rules)))

  abbrev env : List Entry
  env = entry (record { sfits = c.from.type_inv }) level_in ∷ entry (record { sfits = c.z0.type_inv }) mean_in ∷ []

pub overflow_sub-result : goal.overflow_sub-result
overflow_sub-result c = need (env c) (v 0 ⊝ v 1) tt

pub returns : goal.returns
returns c =
    let less = value (env c) (v 0 ⊝ v 1) tt in
    let mean = c.z0.ensures ∙ ap z0 (c.under-b.ensures ∙ faces_are c.args.bed.now c.args.i) in
    let is = ap₂ ◌-ℤ◌ (level_is c) mean ∙ level_less_bed c.args.bed.now c.args.state.now c.args.i in
    (less ∙ is, rw less (mean_depth c.from.result c.z0.result (level_in c) (mean_in c)))
