-- The calls go through the columns before the row's own, those after it and the diagonal, as the definition does.
use Rattle.std.proofs.Common.{◌≡◌, rules}
use Rattle.matrix.specs.Rows.{zero_row}
use Rattle.matrix.specs.Layout.{row_length}
use Rattle.matrix.proofs.RowPlaces.{before_le}
use Rattle.matrix.proofs.FromFirst.{begins}
use Rattle.matrix.proofs.Products.{row_times_lem}
use Rattle.matrix.proofs.sparse_square.row_product.Goals as goal

pub add_before-s1-requires-clause-no_minus_zero : goal.add_before-s1-requires-clause-no_minus_zero
add_before-s1-requires-clause-no_minus_zero c =
    let d : c.default.result ≡ zero_row = search rules in
    (begins c.args.old c.mul.ensures (rw d at c.add-s0.ensures)).1

pub add_before-s1-requires-clause-as_many : goal.add_before-s1-requires-clause-as_many
unfolding row_length
add_before-s1-requires-clause-as_many c = let b = before_le c.args.i in search rules

pub returns : goal.returns
returns c =
    let a = c.args in
    let low = c.count_before-low.ensures in
    let high = c.count_after-high.ensures in
    let d : c.default.result ≡ zero_row = search rules in
    row_times_lem a.n.count a.i a.row.now a.x.now a.old c.requires.i_lt_n c.requires.row_long c.requires.x_long (begins a.old c.mul.ensures (rw d at c.add-s0.ensures)).0 (rw low at c.add_before-s1.ensures.value) (rw (low, high) at c.add_after-s2.ensures.value) (rw (low, high) at c.add_product.ensures.value)
