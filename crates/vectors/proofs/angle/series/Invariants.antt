-- The divisors are those to come, and then those whose series t is.
use Rattle.std.proofs.Common.{◌≡◌, List, ◌++◌}
use lib.Ieee.{Float}
use Rattle.vectors.specs.Angle.{series_of}
use Rattle.vectors.proofs.angle.series.Given as goal

abbrev pub invariant-loop-d : goal.invariant-loop-d
invariant-loop-d l = (p : List Float) × (l.divisors ≡ l.d-iterator.iter.rest.now ++ p) × (l.t ≡ series_of l.z p)
