-- The lesser of the size and the largest number, with a sign or without.
use Rattle.std.proofs.Common.{◌≡◌, ◌∙◌, ap, ℕ, ℤ, pos, nat_abs, ◌≤◌, min, arith}
use Rattle.std.proofs.Math.Decide.{dec_le}
use mir.Facts.{to_z-of_z}
use Rattle.whole.specs.Parts.{lt_of, le_of}
use Rattle.whole.specs.Tests.{yes_le, no_le}
use Rattle.whole.specs.Choice.{min_z, size_z}
use Rattle.whole.specs.Machine.{as_whole}
use Rattle.reach.specs.Size.{largest64, held_size}
use Rattle.reach.proofs.size.size.Goals as goal

-- the lesser of a size and the largest, as a number with a sign
lesser : (x : ℤ) (r : ℕ) → r ≡ min (nat_abs x) 9223372036854775807 → pos r ≡ held_size x
unfolding held_size min_z size_z
lesser x r e = go (dec_le (nat_abs x) 9223372036854775807)
  where
    go : Dec (nat_abs x ≤ 9223372036854775807) → pos r ≡ held_size x
    go (yes h) = rw (yes_le (size_z x) largest64 (le_of (size_z x) largest64 (omega (arith, h)))) (ap pos (omega (arith, h, e)))
    go (no h) = rw (no_le (size_z x) largest64 (lt_of largest64 (size_z x) (omega (arith, h)))) (ap pos (omega (arith, h, e)))

pub returns : goal.returns
returns c =
    let m : c.unsigned_abs.result ≡ nat_abs c.args.x = c.unsigned_abs.ensures.value ∙ ap nat_abs (to_z-of_z c.ranges.x) in
    let least : c.min.result ≡ min (nat_abs c.args.x) 9223372036854775807 = rw m at c.min.ensures in
    as_whole c.min.result (omega (arith, least)) ∙ lesser c.args.x c.min.result least
