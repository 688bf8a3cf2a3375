-- The invariant: the edges before i are turned, and fit is the test of them.
use Rattle.std.proofs.Common.{◌≡◌, ℕ}
use Rattle.matrix.specs.Parts.{table}
use Rattle.matrix.specs.Rows.{rows4}
use Rattle.matrix.specs.Area.{place_u, place_positions, place_frames}
use Rattle.matrix.specs.System.{every}
use Rattle.matrix.proofs.RowLaws.{Stored3}
use Rattle.bench.specs.Update.{turn_fits}
use Rattle.bench.proofs.TurnLaws.{shape_at, frame_after}
use Rattle.bench.proofs.rod3_darboux.turn_frames.Given as goal

abbrev pub invariant-loop-i : goal.invariant-loop-i
invariant-loop-i l = record {
  tested : l.fit ≡ every (turn_fits l.n.count l.pins (shape_at l.initial.work place_positions place_frames l.n.count) (rows4 l.initial.work place_u l.n.count)) (table l.i (λ (k : ℕ). k));
  stored : Stored3 l.initial.work l.work place_frames (frame_after l.n.count l.pins (shape_at l.initial.work place_positions place_frames l.n.count) (rows4 l.initial.work place_u l.n.count)) l.i;
}
