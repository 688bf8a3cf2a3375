-- A turn of the loop stores one row more. The rows still to be read are apart from those stored, so they are the old ones.
use Rattle.std.proofs.Common.{◌∙◌, ◌+◌, ◌*◌, arith}
use Rattle.matrix.specs.Rows.{rows4}
use Rattle.matrix.proofs.RowLaws.{stored_none, stored_more, unstored, stored_all}
use Rattle.matrix.proofs.slice_of_array.copy.Goals as goal

pub loop-i-init : goal.loop-i-init
loop-i-init c = stored_none _ _ _

pub loop-i-preserved : goal.loop-i-preserved
loop-i-preserved c =
    let l = c.loop-i in
    let old = unstored l.invariant (c.args.from + 4 * l.i) (λ j a b x y. c.requires.apart j x (omega arith) (omega arith) (omega arith)) in
    stored_more l.invariant c.store.ensures (c.load.ensures ∙ old)

pub returns : goal.returns
unfolding rows4
returns c = stored_all c.loop-i.invariant (omega arith)
