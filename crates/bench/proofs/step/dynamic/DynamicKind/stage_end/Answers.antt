-- The test reads the velocities where they were staged, and the shape stays.
use Rattle.std.proofs.Common.{List, sym, ap, ◌∙◌}
use Rattle.vectors.specs.declared.vec3.Vec3.{Vec3}
use Rattle.matrix.specs.Rows.{rows3, flat3}
use Rattle.matrix.specs.Area.{place_positions}
use Rattle.matrix.specs.HairSystem.{Shape}
use Rattle.bench.specs.Step.{drape_is_finite, velocities_after, dynamic_drape, drape_after}
use Rattle.bench.proofs.Finishing.{finite_dynamic, velocities_staged, length_velocities}
use Rattle.bench.proofs.step.dynamic.DynamicKind.stage_end.Goals as goal

pub returns : goal.returns
unfolding drape_after
returns c =
    let a = c.args in
    let n = a.n.count in
    let h = a.n.in_range.1 in
    let dt = a.self.dt in
    let x = velocities_after dt n a.pins.now a.drape.now (rows3 a.work.now place_positions n) in
    let v = velocities_staged n a.work.now _ x h c.told-work (length_velocities dt n a.pins.now a.drape.now (rows3 a.work.now place_positions n)) c.stage_velocities.ensures in
    let y = v.there ∙ ap (λ (z : List Vec3). flat3 (velocities_after dt n a.pins.now a.drape.now z)) (sym v.positions_stay) in
    let f = finite_dynamic c.stage_velocities.new.work a.drape.now n h c.stage_velocities.array_long c.told-drape dt a.pins.now y in
    record {
      value = rw (c.positions_are_finite.ensures, c.vectors_are_finite.ensures, c.vectors_are_finite-2.ensures) (sym f) ∙ ap (λ (s : Shape). drape_is_finite n (dynamic_drape dt n a.pins.now a.drape.now s)) v.shape_stays;
      shape_kept = v.shape_stays;
      velocities_staged = y;
    }
