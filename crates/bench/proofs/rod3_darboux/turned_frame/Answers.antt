-- The edge, the frame and the two rows are those of vertex i and the next.
use Rattle.std.proofs.Common.{◌≡◌}
use Rattle.vectors.specs.Vec3.{vec3_sub}
use Rattle.matrix.specs.Area.{place_u, place_positions, place_frames}
use Rattle.matrix.specs.HairSystem.{staged_shape}
use Rattle.bench.specs.Update.{edge_change}
use Rattle.bench.proofs.TurnLaws.{turn_at_lem}
use Rattle.bench.proofs.rod3_darboux.turned_frame.Goals as goal

pub returns : goal.returns
unfolding staged_shape vec3_sub
returns c =
    let dz : c.sub-dz.result ≡ edge_change c.pair.result.0 c.pair.result.1 = rw (c.sub-dz.ensures, c.xyz.ensures, c.xyz-2.ensures) in
    turn_at_lem _ place_positions place_frames place_u _ _ c.args.e.there c.along.ensures c.load-x.ensures c.pair.ensures.first c.pair.ensures.second (rw dz at c.updated_rod_frame.ensures)
