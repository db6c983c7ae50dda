-- A dry depth is in its list exactly when check 2 passes it.
-- Assumes nothing.
use Rattle.std.specs.Prelude.{◌≡◌, false, ℤ}
use Rattle.rules.specs.Limits.{least_dry, most_dry}
use Rattle.rules.specs.Refusals.{bad_dry}
use Rattle.rules.proofs.Laws.Inside.{above_least, below_most, not_outside}
use Rattle.reach.specs.Ranges.{DryDepth}

pub in_list : (d : ℤ) → bad_dry d ≡ false → DryDepth d
in_list d e = record { least = above_least least_dry most_dry d e; most = below_most least_dry most_dry d e }

pub not_bad : (d : ℤ) → DryDepth d → bad_dry d ≡ false
not_bad d i = not_outside least_dry most_dry d i.least i.most
