-- The first i vectors are stored. The working copy still to be read is apart from them.
use Prim.Native.Nat.{◌+◌, ◌*◌}
use mathlib.Core.Path.{◌∙◌}
use native.Mathlib.Omega.{arith}
use Rattle.matrix.proofs.RowLaws.{stored_none, stored_more, unstored, stored_all}
use Rattle.matrix.specs.Area as area
use Rattle.matrix.proofs.Shapes.{vec3_at_lem}
use Rattle.bench.specs.Areas.{place_positions, place_velocities}
use Rattle.bench.specs.Step.{velocities_after}
use Rattle.bench.proofs.velocities.stage_velocities.Goals as goal

pub loop-i-init : goal.loop-i-init
loop-i-init c = stored_none _ _ _

pub loop-i-preserved : goal.loop-i-preserved
loop-i-preserved c =
    let a = c.args in
    let l = c.loop-i in
    let d = a.drape.now in
    let old = unstored l.invariant (area.place_positions + 3 * l.i) (λ j x y u v. omega arith) in
    let p = vec3_at_lem d place_positions a.n.count l.i (3 * l.i) (omega arith) (omega arith) in
    let v = vec3_at_lem d place_velocities a.n.count l.i (place_velocities + 3 * l.i) (omega arith) (omega arith) in
    let w = c.load-c.ensures ∙ old ∙ vec3_at_lem a.work.now area.place_positions a.n.count l.i (area.place_positions + 3 * l.i) (omega arith) (omega arith) in
    stored_more l.invariant c.store.ensures (rw (c.vertex_velocity.ensures, p, v, w))

pub returns : goal.returns
unfolding velocities_after
returns c = stored_all c.loop-i.invariant (omega arith)
