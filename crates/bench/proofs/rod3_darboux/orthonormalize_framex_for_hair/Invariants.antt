-- The invariant: the frames before edge i are stored.
use Rattle.matrix.specs.Area.{place_positions, place_frames}
use Rattle.matrix.proofs.RowLaws.{Stored3}
use Rattle.bench.proofs.EdgeLaws.{frame_across}
use Rattle.bench.proofs.rod3_darboux.orthonormalize_framex_for_hair.Given as goal

abbrev pub invariant-loop-i : goal.invariant-loop-i
invariant-loop-i l = Stored3 l.initial.work l.work place_frames (frame_across l.initial.work place_frames place_positions l.n.count) l.i
