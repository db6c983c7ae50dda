-- What the code finds of a depth: a number of the level less one of the bed, which a call gave it, and the opposite of a mean.
-- Assumes nothing.
use Rattle.std.specs.Prelude.{◌≡◌, List, [], ◌∷◌, ℤ, pos, neg_ℤ, ◌-ℤ◌}
use Rattle.std.proofs.Common.{sym, ◌∙◌, ap, subst, arith, SFits}
use Rattle.std.specs.Int.{w64}
use Rattle.whole.specs.Parts.{fit}
use Rattle.whole.specs.Difference.{at, lit, ◌⊟◌, ⊖, eq! }
use Rattle.whole.specs.Machine.{v, k, ◌⊝◌, Entry, entry, rd, need, value}
use Rattle.rules.specs.Limits.{highest_bed}
use Rattle.reach.specs.Ranges.{UpTo, widest}
use Rattle.finishing.specs.Depths.{widest_depth}

module _ {level grounded found : ℤ} (w : UpTo widest level) (g : UpTo highest_bed grounded) (e : found ≡ grounded) where
  abbrev both : List Entry
  both = entry (fit w tt) w ∷ entry (fit g tt) g ∷ []

  pub depth_fits_lem : SFits w64 (rd level -ℤ rd found)
  depth_fits_lem = subst (λ (z : ℤ). SFits w64 (rd level -ℤ rd z)) (sym e) (need both (v 0 ⊝ v 1) tt)

  pub depth_is : rd (rd level -ℤ rd found) ≡ level -ℤ grounded
  depth_is = ap (λ (z : ℤ). rd (rd level -ℤ rd z)) e ∙ value both (v 0 ⊝ v 1) tt

-- there `-x` is 0 - x
module _ {mean : ℤ} (w : UpTo widest_depth mean) where
  abbrev one : List Entry
  one = entry (fit w tt) w ∷ []

  pub minus_fits : SFits w64 (pos 0 -ℤ rd mean)
  minus_fits = need one (k (pos 0) ⊝ v 0) tt

  pub minus_is : rd (pos 0 -ℤ rd mean) ≡ neg_ℤ mean
  minus_is = value one (k (pos 0) ⊝ v 0) tt ∙ eq! (lit 0 ⊟ at mean) (⊖ (at mean)) (omega arith)
