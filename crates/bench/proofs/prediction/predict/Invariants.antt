-- The invariant: the first i vectors are stored.
use Prim.Native.Nat.{ℕ, ◌*◌}
use Rattle.matrix.specs.Area.{place_positions}
use Rattle.matrix.specs.HairSystem.{vec3_at}
use Rattle.matrix.proofs.RowLaws.{Stored3}
use Rattle.bench.specs.Step.{positions_in, velocities_in, working_copy_in, predicted_vec3}
use Rattle.bench.proofs.prediction.predict.Given as goal

abbrev pub invariant-loop-i : goal.invariant-loop-i
invariant-loop-i l = Stored3 l.initial.work l.work place_positions (λ (k : ℕ). predicted_vec3 l.dt l.pins (4 * k) (vec3_at (positions_in l.fn.n.count l.drape) k) (vec3_at (velocities_in l.fn.n.count l.drape) k) (vec3_at (working_copy_in l.fn.n.count l.drape) k)) l.i
