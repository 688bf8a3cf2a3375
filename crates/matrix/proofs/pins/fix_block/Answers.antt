-- The block that is stored is the old one with its pins.
use Rattle.matrix.proofs.Fixing.{block_fixed_lem, block_fixed_after}
use Rattle.matrix.proofs.pins.fix_block.Goals as goal

pub returns : goal.returns
returns c =
    let a = c.args in
    let n = a.pins.n in
    let e = rw (c.block_unless_fixed.ensures, c.pinned_columns-e.ensures, c.load-b.ensures, c.block_place-at.ensures) at c.store.ensures in
    record {
      work_after = block_fixed_lem n.count a.i a.j a.pins.bytes.now _ _ n.in_range c.told-work c.requires e;
      after_vectors_kept = block_fixed_after n.count a.i a.j a.pins.bytes.now _ _ n.in_range c.told-work c.requires e;
    }
