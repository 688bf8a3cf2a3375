-- The edge is the one that the call answers, and the frame is the row of vertex i.
use Rattle.std.proofs.Common.{◌+◌, ◌*◌, refl, arith}
use Rattle.matrix.specs.Area.{place_frames}
use Rattle.matrix.proofs.Shapes.{vec3_at_lem}
use Rattle.bench.proofs.rod3_darboux.orthonormal.Goals as goal

pub returns : goal.returns
returns c =
    let a = c.args in
    rw (c.normalize.ensures, c.orthogonalize.ensures, c.load-x.ensures, c.along.ensures, vec3_at_lem a.work.now place_frames a.e.n.count a.e.from (place_frames + 3 * a.e.from) (omega arith) refl)
