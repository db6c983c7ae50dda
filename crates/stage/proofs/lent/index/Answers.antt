-- Of four columns of at most 1,024 numbers each, none has an index beyond theirs.
use mathlib.Core.Path.{refl}
use Prim.Native.Nat.{ℕ, ◌*◌, ◌≤◌, ◌<◌}
use native.Mathlib.Nat.{mul-le-mul_right}
use native.Mathlib.Omega.{arith}
use Rattle.stage.proofs.lent.index.Goals as goal

before_fourth : (n m : ℕ) → m < 4 → m * n ≤ 3 * n
before_fourth n m h = mul-le-mul_right n (let l : m ≤ 3 = omega arith in l)

pub overflow_mul-result : goal.overflow_mul-result
overflow_mul-result c = record { fits = omega (arith, before_fourth c.args.n c.args.m c.requires.1) }

pub overflow_add-result : goal.overflow_add-result
overflow_add-result c = record { fits = omega (arith, before_fourth c.args.n c.args.m c.requires.1) }

pub returns : goal.returns
returns c = (refl, omega (arith, before_fourth c.args.n c.args.m c.requires.1))
