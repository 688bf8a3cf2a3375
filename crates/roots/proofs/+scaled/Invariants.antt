-- Each call moves a 4 from the power to m, until m has 53 digits: what m lacks of 2 ^ 52 falls.
use Rattle.std.proofs.Common.{◌-◌, ◌^◌}
use Rattle.roots.proofs.+scaled.Given as goal

abbrev pub decreases-scaled : goal.decreases-scaled
decreases-scaled l = 2 ^ 52 - l.m
