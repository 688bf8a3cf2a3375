-- Both vectors stand where the shape says.
use Rattle.std.proofs.Common.{◌+◌, ◌*◌, arith}
use Rattle.vectors.specs.Vec3.{vec3_norm}
use Rattle.vectors.specs.Edge.{edge_length, measured_of}
use Rattle.matrix.specs.Edges.{length_at}
use Rattle.matrix.proofs.Shapes.{vec3_at_lem}
use Rattle.matrix.proofs.edges.length_at.Goals as goal

pub returns : goal.returns
unfolding length_at edge_length measured_of vec3_norm
returns c =
    let xyz = c.args.s.xyz.now in
    let n = c.args.s.n.count in
    let i = c.args.i in
    simp (c.length.ensures, c.pair.ensures.second, c.pair.ensures.first, vec3_at_lem xyz 0 n i (3 * i) (omega arith) (omega arith), vec3_at_lem xyz 0 n (i + 1) (3 * i + 3) (omega arith) (omega arith))
