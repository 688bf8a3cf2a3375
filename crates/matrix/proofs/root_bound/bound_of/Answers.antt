-- Each of the three answers is a bound by its law.
use Rattle.std.proofs.Common.{rules}
use Rattle.std.specs.Float.{binary64}
use lib.Ieee.{of_bits, div}
use lib.Ieee.Fits.{mul-fits}
use Rattle.matrix.proofs.RootBound.{zero_bounds, above_square_bounds, infinity_bounds}
use Rattle.matrix.proofs.root_bound.bound_of.Goals as goal

pub returns-then-square-bound : goal.returns-then-square-bound
returns-then-square-bound c = above_square_bounds c.args.tolerance _ (search rules) (mul-fits binary64 _ _) c.if-tolerance.true c.if-square-bound.true

pub returns-then-tolerance : goal.returns-then-tolerance
unfolding of_bits div
returns-then-tolerance c = infinity_bounds _

pub returns : goal.returns
returns c = zero_bounds _ c.if-tolerance.false
