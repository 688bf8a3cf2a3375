-- The calls are the definition's operations, but for the +0 in front of the product's sums.
use Rattle.matrix.specs.Rows.{row4, block16}
use Rattle.matrix.proofs.FromFirst.{product_added}
use Rattle.matrix.proofs.sparse_square.add_product.Goals as goal

pub returns : goal.returns
returns c =
    let a = c.args in
    let sum = product_added (block16 a.m.now 0) (row4 a.x.now 0) c.requires (simp (c.add.ensures, c.block_product.ensures, c.load.ensures, c.load-2.ensures)) in
    record { value = sum.0; sum_no_minus_zero = sum.1 }
