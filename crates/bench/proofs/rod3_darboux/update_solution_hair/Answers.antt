-- The frames turn, then the positions move; these and the solution stand apart from the frames, so the second loop reads them as they were.
-- What is stored is then the staged shape.
use Rattle.std.proofs.Common.{rules, arith}
use Rattle.matrix.specs.Rows.{rows4}
use Rattle.matrix.specs.Area.{place_u, place_positions, place_frames}
use Rattle.matrix.specs.HairSystem.{staged_shape}
use Rattle.bench.proofs.TurnLaws.{updated}
use Rattle.bench.proofs.Finishing.{updated_shape}
use Rattle.bench.proofs.rod3_darboux.update_solution_hair.Goals as goal

pub returns-clause-work_after : goal.returns-clause-work_after
unfolding staged_shape
returns-clause-work_after c =
    let a = c.args in
    let n = a.n.count in
    let e = updated _ _ _ place_positions place_frames place_u n a.pins.now (λ k p q x y. omega arith) (λ k p q x y. omega arith) c.turn_frames-fit.ensures.work_after c.move_vertices.ensures in
    updated_shape a.work.now n a.pins.now (staged_shape n a.work.now) (rows4 a.work.now place_u n) (search rules) (search rules) e
