-- The closed form of the sum, by the two tests.
use Rattle.std.proofs.Common.{sym, arith}
use Rattle.matrix.proofs.RowPlaces.{placed}
use Rattle.matrix.proofs.layout.row_start.Goals as goal

pub returns-then-i-n : goal.returns-then-i-n
returns-then-i-n c = sym ((placed c.args.n.count c.args.i c.requires c.args.n.in_range.0).first (omega arith) (omega arith))

pub returns-else-i-n : goal.returns-else-i-n
returns-else-i-n c = sym ((placed c.args.n.count c.args.i c.requires c.args.n.in_range.0).first_last (omega arith) (omega arith))

pub returns-then-i-n-2 : goal.returns-then-i-n-2
returns-then-i-n-2 c = sym ((placed c.args.n.count c.args.i c.requires c.args.n.in_range.0).later (omega arith) (omega arith))

pub returns-else-i-n-2 : goal.returns-else-i-n-2
returns-else-i-n-2 c = sym ((placed c.args.n.count c.args.i c.requires c.args.n.in_range.0).later_last (omega arith) (omega arith))
