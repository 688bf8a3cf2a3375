-- The invariant: c is added to the first i diagonal blocks.
use Rattle.matrix.proofs.Diagonals.{Loaded}
use Rattle.matrix.proofs.system.add_to_diagonals.Given as goal

abbrev pub invariant-loop-i : goal.invariant-loop-i
invariant-loop-i l = Loaded l.n.count l.initial.work l.c l.i l.work
