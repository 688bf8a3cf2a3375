-- The invariant: the first i vectors are stored. The working copy still to be read is apart from them.
use Prim.Native.Nat.{ℕ, ◌*◌}
use Rattle.matrix.specs.Rows.{rows3}
use Rattle.matrix.specs.Area as area
use Rattle.matrix.specs.HairSystem.{vec3_at}
use Rattle.matrix.proofs.RowLaws.{Stored3}
use Rattle.bench.specs.Step.{positions_in, velocities_in, velocity_vec3}
use Rattle.bench.proofs.velocities.stage_velocities.Given as goal

abbrev pub invariant-loop-i : goal.invariant-loop-i
invariant-loop-i l = Stored3 l.initial.work l.work area.place_velocities (λ (k : ℕ). velocity_vec3 l.dt l.pins (4 * k) (vec3_at (velocities_in l.fn.n.count l.drape) k) (vec3_at (rows3 l.initial.work area.place_positions l.fn.n.count) k) (vec3_at (positions_in l.fn.n.count l.drape) k)) l.i
