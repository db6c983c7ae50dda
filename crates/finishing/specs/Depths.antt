-- How large a depth can be before a cell is finished.
use Rattle.std.specs.Prelude.{ℤ, ◌+ℤ◌}
use Rattle.rules.specs.Limits.{highest_bed}
use Rattle.reach.specs.Ranges.{widest}

-- the mean or slope of the level of an unfinished cell, less that of its bed
abbrev pub widest_depth : ℤ
widest_depth = widest +ℤ highest_bed
