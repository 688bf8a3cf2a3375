-- The first i vectors are stored.
use Prim.Native.Nat.{◌+◌, ◌*◌}
use native.Mathlib.Omega.{arith}
use Rattle.matrix.proofs.RowLaws.{stored_none, stored_more, stored_all}
use Rattle.matrix.proofs.Shapes.{vec3_at_lem}
use Rattle.bench.specs.Areas.{place_positions, place_velocities, place_working_copy}
use Rattle.bench.specs.Step.{predicted_copy}
use Rattle.bench.proofs.prediction.predict.Goals as goal

pub loop-i-init : goal.loop-i-init
loop-i-init c = stored_none _ _ _

pub loop-i-preserved : goal.loop-i-preserved
loop-i-preserved c =
    let a = c.args in
    let l = c.loop-i in
    let d = a.drape.now in
    let p = vec3_at_lem d place_positions a.n.count l.i (3 * l.i) (omega arith) (omega arith) in
    let v = vec3_at_lem d place_velocities a.n.count l.i (place_velocities + 3 * l.i) (omega arith) (omega arith) in
    let w = vec3_at_lem d place_working_copy a.n.count l.i (place_working_copy + 3 * l.i) (omega arith) (omega arith) in
    stored_more l.invariant c.store.ensures (rw (c.predicted_vertex.ensures, p, v, w))

pub returns : goal.returns
unfolding predicted_copy
returns c = stored_all c.loop-i.invariant (omega arith)
