-- From the bound on, infinity serves in the root's place; else the answer is the root.
use lib.Ieee.{of_bits, div}
use Rattle.matrix.proofs.RootBound.{in_place}
use Rattle.matrix.proofs.root_bound.root_if_below.Goals as goal

pub returns-then-bound-q : goal.returns-then-bound-q
unfolding of_bits div
returns-then-bound-q c = in_place _ _ _ c.requires c.if-bound-q.true
