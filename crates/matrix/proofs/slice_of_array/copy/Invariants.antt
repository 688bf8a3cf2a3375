-- The invariant: the first i rows are stored.
use Rattle.std.proofs.Common.{ℕ, ◌+◌, ◌*◌}
use Rattle.matrix.specs.Rows.{row4}
use Rattle.matrix.proofs.RowLaws.{Stored}
use Rattle.matrix.proofs.slice_of_array.copy.Given as goal

abbrev pub invariant-loop-i : goal.invariant-loop-i
invariant-loop-i l = Stored l.initial.work l.work l.to (λ (k : ℕ). row4 l.initial.work (l.from + 4 * k)) l.i
