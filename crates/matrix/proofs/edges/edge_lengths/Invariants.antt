-- The invariant: the first i lengths are stored, and +0 stands after them.
use Rattle.std.proofs.Common.{◌≡◌}
use Rattle.matrix.specs.Edges.{edge_lengths, shape_of}
use Rattle.matrix.proofs.edges.edge_lengths.Given as goal

abbrev pub invariant-loop-i : goal.invariant-loop-i
invariant-loop-i l = l.lengths ≡ edge_lengths l.i (shape_of l.s).positions
