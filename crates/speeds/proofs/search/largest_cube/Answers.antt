use native.Mathlib.Omega.{arith}
use Rattle.rules.proofs.Laws.Speeds.{cube_by}
use Rattle.speeds.proofs.search.largest_cube.Goals as goal

pub returns-then-h-eq0 : goal.returns-then-h-eq0
returns-then-h-eq0 c = cube_by c.args.h 0 c.requires (omega arith) (omega arith)

pub returns : goal.returns
returns c = cube_by c.args.h c.loop-c.c c.requires (omega arith) (omega arith)
