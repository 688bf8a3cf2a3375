-- Each vector stands where the shape says, and the length is that of the edge.
use Rattle.std.proofs.Common.{◌+◌, ◌*◌, arith}
use Rattle.elements.proofs.OwnLength.{frame_of_own_length}
use Rattle.matrix.specs.Edges.{length_at, frame_at}
use Rattle.matrix.proofs.Shapes.{vec3_at_lem}
use Rattle.matrix.proofs.edges.frame_at.Goals as goal

pub returns : goal.returns
unfolding frame_at length_at
returns c =
    let s = c.args.s in
    let xyz = s.xyz.now in
    let n = s.n.count in
    let i = c.args.i in
    simp (
      c.edge_frame_of_length.ensures,
      c.load-x.ensures,
      c.pair.ensures.second,
      c.pair.ensures.first,
      vec3_at_lem xyz 0 n i (3 * i) (omega arith) (omega arith),
      vec3_at_lem xyz 0 n (i + 1) (3 * i + 3) (omega arith) (omega arith),
      vec3_at_lem s.framex.now 0 n i (3 * i) (omega arith) (omega arith),
    )
    (frame_of_own_length _ _ _ _ c.requires.len_value)
