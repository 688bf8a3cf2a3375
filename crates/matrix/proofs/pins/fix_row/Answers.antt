-- The row's columns are those from the first that it has to the last, and a turn of the loop pins one block more.
use Rattle.std.proofs.Common.{◌≡◌, ◌∙◌, ◌+◌, ◌-◌, eqb, arith, rules}
use Rattle.matrix.specs.Layout.{before, after}
use Rattle.matrix.specs.HairSystem.{same_pair}
use Rattle.matrix.proofs.RowPlaces.{before_le}
use Rattle.matrix.proofs.Fixing.{fixed_first, fixed_next, fixed_ext, columns_before, column_inside, no_column, every_column, column_adds}
use Rattle.matrix.proofs.pins.fix_row.Goals as goal

pub loop-j-init : goal.loop-j-init
loop-j-init c =
    let n = c.args.pins.n.count in
    let k = c.args.i in
    rw c.count_before.ensures (fixed_first n c.args.pins.bytes.now (columns_before k (k - before k)) _ (no_column n k c.requires))

pub fix_block-requires : goal.fix_block-requires
fix_block-requires c =
    let b = c.count_before.ensures in
    let a = c.count_after.ensures in
    column_inside c.args.pins.n.count c.args.i c.requires c.loop-j.j (omega arith) (omega arith)

pub loop-j-preserved : goal.loop-j-preserved
loop-j-preserved c =
    let l = c.loop-j in
    let k = c.args.i in
    let f = c.fix_block.ensures in
    fixed_next (same_pair k l.j) (columns_before k l.j) (columns_before k (l.j + 1)) l.invariant (search rules) (f.work_after, f.after_vectors_kept) (λ i j near. column_adds k l.j i j)

pub returns : goal.returns
returns c =
    let n = c.args.pins.n.count in
    let l = c.loop-j in
    let a = c.count_after.ensures in
    let b = c.count_before.ensures in
    let k = c.args.i in
    let e : l.j ≡ k + after n k + 1 = omega (arith, before_le k) in
    record {
      work_after = rw e at l.invariant.system ∙ fixed_ext n c.args.pins.bytes.now (columns_before k (k + after n k + 1)) (λ p q. eqb k p) _ (every_column n k c.requires);
      after_vectors_kept = l.invariant.staged;
    }
