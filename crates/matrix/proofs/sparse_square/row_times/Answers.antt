-- The parts that are lent hold the row's blocks and the vector, and the row lies within the area's blocks.
use Rattle.std.proofs.Common.{rules}
use Rattle.matrix.proofs.RowPlaces.{row_fits}
use Rattle.matrix.proofs.Products.{lent_product}
use Rattle.matrix.proofs.sparse_square.row_times.Goals as goal

pub returns : goal.returns
returns c =
    let a = c.args in
    let fits = row_fits a.n.count a.i c.requires.i_lt_n a.n.in_range.0 a.n.in_range.1 in
    lent_product a.work.now a.n.count a.i a.p a.at _ _ _ _ _ c.requires.at_value c.row_length.ensures (search rules) (search rules) (rw (c.load.ensures, c.as_chunks.ensures.front, c.as_chunks-2.ensures.front) at c.row_product.ensures)
