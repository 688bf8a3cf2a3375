-- A turn of the loop stores one position more. Its own and the solution are read as at the start.
use Rattle.std.proofs.Common.{◌∙◌, arith}
use Rattle.matrix.specs.Area.{place_u}
use Rattle.matrix.proofs.Widths.{stored_none, stored_more, stored_all, rows_unstored_as}
use Rattle.matrix.proofs.RowWidths.{four}
use Rattle.bench.specs.Update.{moved_at}
use Rattle.bench.proofs.EdgeLaws.{own_vector}
use Rattle.bench.proofs.rod3_darboux.move_vertices.Goals as goal

pub loop-i-init : goal.loop-i-init
loop-i-init c = stored_none _ _ _

pub loop-i-preserved : goal.loop-i-preserved
unfolding moved_at
loop-i-preserved c =
    let s = c.loop-i.invariant in
    let n = c.args.n.count in
    let own = own_vector s n (omega arith) in
    let solution = rows_unstored_as four s place_u n (λ j p q x y. omega arith) in
    stored_more s c.store.ensures (c.moved.ensures ∙ rw (own, solution))

pub returns : goal.returns
returns c = stored_all c.loop-i.invariant (omega arith)
