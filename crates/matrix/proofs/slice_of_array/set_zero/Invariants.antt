-- The invariant: the first i rows are stored, each +0.
use Rattle.matrix.proofs.RowLaws.{Stored}
use Rattle.matrix.proofs.slice_of_array.set_zero.Given as goal

abbrev pub invariant-loop-i : goal.invariant-loop-i
invariant-loop-i l = Stored l.initial.work l.work l.to (λ _. l.zero) l.i
