-- One row more, of blocks, vector and old row that no stored row has touched.
use Rattle.std.proofs.Common.{◌+◌, ◌*◌, List, refl, ap, ◌∙◌, arith, rules}
use Rattle.vectors.specs.declared.vec4.Vec4.{Vec4}
use Rattle.matrix.specs.Parts.{put}
use Rattle.matrix.specs.Rows.{flat4}
use Rattle.matrix.specs.Layout.{row_length, row_start}
use Rattle.matrix.proofs.RowPlaces.{row_fits, row_start_next}
use Rattle.matrix.proofs.RowLaws.{stored_none, stored_more, unstored, stored_all}
use Rattle.matrix.proofs.Products.{rows_unstored, blocks_unstored, product_rows}
use Rattle.matrix.proofs.sparse_square.mult_vec.Goals as goal

pub loop-i-init : goal.loop-i-init
unfolding row_start
loop-i-init c = record { begins = refl; stored = stored_none _ _ _ }

pub loop-i-preserved : goal.loop-i-preserved
loop-i-preserved c =
    let n = c.args.n.count in
    let a = c.args in
    let l = c.loop-i in
    let s = l.invariant.stored in
    let fits = row_fits n l.i (search rules) a.n.in_range.0 a.n.in_range.1 in
    let blocks = blocks_unstored s (16 * row_start n l.i) (row_length n l.i) (omega arith) in
    let vector = rows_unstored s a.p n (λ j b d x y. c.requires.apart j x (omega arith) b d) in
    let old = unstored s (a.ap + 4 * l.i) (λ j b d x y. omega arith) in
    record {
      begins = omega (arith, row_start_next n l.i);
      stored = stored_more s c.store.ensures (rw (blocks, vector, old) at c.row_times.ensures);
    }

pub returns : goal.returns
returns c =
    let a = c.args in
    stored_all c.loop-i.invariant.stored (omega arith) ∙ ap (λ (l : List Vec4). put a.work.now a.ap (flat4 l)) (product_rows a.work.now a.n.count a.p a.ap)
