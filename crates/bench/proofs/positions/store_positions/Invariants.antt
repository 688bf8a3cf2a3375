-- The invariant: the first i vectors are stored. The positions still to be read stand behind them.
use Prim.Native.Nat.{ℕ, ◌*◌}
use Rattle.matrix.specs.Rows.{rows3}
use Rattle.matrix.specs.Area as area
use Rattle.matrix.specs.HairSystem.{vec3_at}
use Rattle.matrix.proofs.RowLaws.{Stored3}
use Rattle.bench.specs.Areas.{place_positions}
use Rattle.bench.specs.Update.{vec3_unless_pinned}
use Rattle.bench.specs.Step.{positions_in}
use Rattle.bench.proofs.positions.store_positions.Given as goal

abbrev pub invariant-loop-i : goal.invariant-loop-i
invariant-loop-i l = Stored3 l.initial.drape l.drape place_positions (λ (k : ℕ). vec3_unless_pinned l.pins (4 * k) (vec3_at (positions_in l.fn.n.count l.initial.drape) k) (vec3_at (rows3 l.work area.place_positions l.fn.n.count) k)) l.i
