-- The invariant: row i begins at `at`, and the first i rows of the product are stored. Blocks, vector and the old rows still to come are apart from them.
use Rattle.std.proofs.Common.{◌≡◌, ◌*◌}
use Rattle.matrix.specs.Layout.{row_start}
use Rattle.matrix.proofs.RowLaws.{Stored}
use Rattle.matrix.proofs.Products.{row_at}
use Rattle.matrix.proofs.sparse_square.mult_vec.Given as goal

abbrev pub invariant-loop-i : goal.invariant-loop-i
invariant-loop-i l = record {
  begins : l.at ≡ 16 * row_start l.n.count l.i;
  stored : Stored l.initial.work l.work l.ap (row_at l.initial.work l.n.count l.p l.ap) l.i;
}
