-- The position and the row are those of vertex i.
use Rattle.std.proofs.Common.{◌+◌, ◌*◌, refl}
use Rattle.vectors.specs.Vec3.{vec3_sub}
use Rattle.matrix.specs.Rows.{zero_row}
use Rattle.matrix.specs.Area.{place_u, place_positions}
use Rattle.matrix.proofs.Shapes.{vec3_at_lem}
use Rattle.matrix.proofs.Products.{row_at_lem}
use Rattle.bench.specs.Update.{moved_at}
use Rattle.bench.proofs.rod3_darboux.moved.Goals as goal

pub returns : goal.returns
unfolding moved_at vec3_sub
returns c =
    let a = c.args in
    rw (
      c.vec3_unless_pinned.ensures,
      c.sub.ensures,
      c.xyz.ensures,
      c.load-p.ensures,
      c.load-a.ensures,
      vec3_at_lem a.work.now place_positions a.n.count a.i (place_positions + 3 * a.i) c.requires refl,
      row_at_lem zero_row a.work.now place_u a.n.count a.i (place_u + 4 * a.i) c.requires refl,
    )
