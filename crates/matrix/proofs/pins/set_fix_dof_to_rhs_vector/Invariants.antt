-- The invariant: the first i rows are stored.
use Rattle.std.proofs.Common.{ℕ, ◌+◌, ◌*◌}
use Rattle.matrix.specs.Rows.{row4}
use Rattle.matrix.specs.Pins.{row_unless_fixed}
use Rattle.matrix.proofs.RowLaws.{Stored}
use Rattle.matrix.proofs.pins.set_fix_dof_to_rhs_vector.Given as goal

abbrev pub invariant-loop-i : goal.invariant-loop-i
invariant-loop-i l = Stored l.initial.work l.work l.to (λ (k : ℕ). row_unless_fixed l.pins.bytes.now (4 * k) (row4 l.initial.work (l.to + 4 * k))) l.i
