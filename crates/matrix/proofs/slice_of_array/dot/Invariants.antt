-- The invariant: the sum is that of the first i rows.
use Rattle.std.proofs.Common.{◌≡◌, ℕ, ◌+◌, ◌*◌}
use Rattle.vectors.specs.Number.{plus_zero}
use Rattle.matrix.specs.Parts.{table}
use Rattle.matrix.specs.Rows.{row4}
use Rattle.matrix.specs.SliceOfArray.{dot_from}
use Rattle.matrix.proofs.slice_of_array.dot.Given as goal

abbrev pub invariant-loop-i : goal.invariant-loop-i
invariant-loop-i l = l.sum ≡ dot_from plus_zero (table l.i (λ (k : ℕ). row4 l.work (l.a + 4 * k))) (table l.i (λ (k : ℕ). row4 l.work (l.b + 4 * k)))
