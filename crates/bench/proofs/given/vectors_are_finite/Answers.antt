-- The part that is asked begins at the place and ends behind the n vectors.
use Rattle.std.proofs.Common.{◌*◌}
use native.Mathlib.Nat.{add-sub_cancel_left}
use Rattle.matrix.specs.Parts.{part}
use Rattle.bench.proofs.given.vectors_are_finite.Goals as goal

pub returns : goal.returns
unfolding part
returns c = rw (c.numbers_are_finite.ensures, add-sub_cancel_left c.args.at (3 * c.args.n.count))
