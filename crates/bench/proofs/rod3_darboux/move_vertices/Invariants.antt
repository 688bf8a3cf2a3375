-- The invariant: the positions before vertex i are stored.
use Rattle.matrix.specs.Rows.{rows3, rows4}
use Rattle.matrix.specs.Area.{place_u, place_positions}
use Rattle.matrix.proofs.RowLaws.{Stored3}
use Rattle.bench.specs.Update.{moved_at}
use Rattle.bench.proofs.rod3_darboux.move_vertices.Given as goal

abbrev pub invariant-loop-i : goal.invariant-loop-i
invariant-loop-i l = Stored3 l.initial.work l.work place_positions (moved_at l.pins (rows3 l.initial.work place_positions l.n.count) (rows4 l.initial.work place_u l.n.count)) l.i
