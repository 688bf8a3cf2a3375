-- The first i lengths are stored, and +0 stands after them.
use Rattle.matrix.specs.Edges.{shape_of}
use Rattle.matrix.proofs.EdgeLaws.{lengths_none, lengths_more}
use Rattle.matrix.proofs.edges.edge_lengths.Goals as goal

pub loop-i-init : goal.loop-i-init
loop-i-init c = lengths_none _

pub loop-i-preserved : goal.loop-i-preserved
loop-i-preserved c = rw (c.loop-i.invariant, c.length_at.ensures) (lengths_more c.loop-i.i (shape_of c.args.s).positions)
