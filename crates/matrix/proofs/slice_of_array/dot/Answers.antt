-- A turn of the loop adds the next row's product, as the sum of one row more does.
use Rattle.std.proofs.Common.{sym}
use Rattle.vectors.specs.Number.{plus_zero}
use Rattle.matrix.proofs.RowLaws.{dot_more}
use Rattle.matrix.proofs.slice_of_array.dot.Goals as goal

pub loop-i-preserved : goal.loop-i-preserved
loop-i-preserved c = rw (c.loop-i.invariant, c.dot-sum.ensures, c.load-in-loop-i.ensures, c.load.ensures) (sym (dot_more plus_zero c.loop-i.i _ _))
