-- A turn of the loop stores one diagonal block more, the old one and c.
use Rattle.std.proofs.Common.{arith, rules}
use Rattle.matrix.proofs.Diagonals.{loaded_none, loaded_more, loaded_all}
use Rattle.matrix.proofs.system.add_to_diagonals.Goals as goal

pub loop-i-init : goal.loop-i-init
loop-i-init c = loaded_none _ _ _ c.told-work

pub loop-i-preserved : goal.loop-i-preserved
loop-i-preserved c =
    let e = rw (c.diagonal_plus.ensures, c.load-b.ensures, c.block_place-at.ensures) at c.store.ensures in
    loaded_more c.loop-i.invariant c.args.n.in_range c.loop-i-test.true _ e (search rules)

pub returns : goal.returns
returns c = record { work_after = loaded_all c.loop-i.invariant (omega arith); after_vectors_kept = c.loop-i.invariant.after }
