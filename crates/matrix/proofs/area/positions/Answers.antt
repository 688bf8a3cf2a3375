-- What is read in a part of the area is read in the area itself.
use Rattle.std.proofs.Common.{arith}
use Rattle.matrix.specs.Parts.{part}
use Rattle.matrix.proofs.RowWidths.{three}
use Rattle.matrix.proofs.Widths.{rows_in_part}
use Rattle.matrix.proofs.area.positions.Goals as goal

pub returns : goal.returns
unfolding part
returns c = λ n h. rw (rw c.unwrap.ensures at c.as_array.ensures.cases).same (rows_in_part three c.args.work.now _ 96 n (omega arith))
