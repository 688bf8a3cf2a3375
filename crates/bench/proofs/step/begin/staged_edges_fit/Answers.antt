-- The staged positions are lent as a part.
use Rattle.std.proofs.Common.{arith}
use Rattle.matrix.specs.Parts.{part}
use Rattle.matrix.specs.Area.{place_positions}
use Rattle.matrix.specs.HairSystem.{staged_shape}
use Rattle.matrix.proofs.Shapes.{rows3_part}
use Rattle.bench.proofs.step.begin.staged_edges_fit.Goals as goal

pub returns : goal.returns
unfolding part staged_shape
returns c = let a = c.args in rw (c.edges_fit.ensures, rows3_part a.work.now place_positions 96 a.n.count (omega (arith, a.n.in_range)))
