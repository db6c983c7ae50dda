-- The cube-root number that the search finds fits 64 bits with a sign: it is at most that of the deepest water.
use mathlib.Core.Path.{◌≡◌, ◌∙◌, ap}
use Prim.Native.Nat.{◌<◌, ◌^◌}
use native.Mathlib.Omega.{arith}
use lib.IntN.{pos, nat_abs}
use mir.Facts.{to_z-of_z}
use Rattle.whole.specs.Parts.{of_le, b_nonneg}
use Rattle.whole.specs.Machine.{as_whole}
use Rattle.rules.specs.Friction.{cube, cube_of}
use Rattle.rules.proofs.Laws.Speeds.{cube_most}
use Rattle.speeds.proofs.search.cube_of.Goals as goal

module _ (c : goal.After-largest_cube) where
  found : c.largest_cube.result ≡ cube_of (nat_abs c.args.h)
  found = simp (to_z-of_z, c.ranges.h) at c.largest_cube.ensures

  fits : c.largest_cube.result < 2 ^ 63
  unfolding cube
  fits = let s = c.before in omega (arith, found, of_le (cube_most s.args.h (b_nonneg s.requires.0 s.requires.1)))

pub overflow_cast-result : goal.overflow_cast-result
overflow_cast-result c = record { sfits = fits c }

pub returns : goal.returns
unfolding cube
returns c = as_whole c.largest_cube.result (fits c) ∙ ap pos (found c)
