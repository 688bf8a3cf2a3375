-- A turn of the loop stores one row more, and after the last the rows are all of them.
use Rattle.std.proofs.Common.{◌≡◌, ◌∙◌, ℕ, refl, ap, rules, arith}
use Rattle.vectors.specs.declared.vec4.Vec4.{Vec4}
use Rattle.matrix.specs.Parts.{put, table}
use Rattle.matrix.specs.Rows.{zero_row, flat4}
use Rattle.matrix.specs.SliceOfArray.{zero_rows}
use Rattle.matrix.proofs.RowLaws.{stored_none, stored_more, stored_all}
use Rattle.matrix.proofs.slice_of_array.set_zero.Goals as goal

pub loop-i-init : goal.loop-i-init
loop-i-init c = stored_none _ _ _

pub loop-i-preserved : goal.loop-i-preserved
loop-i-preserved c = stored_more c.loop-i.invariant c.store.ensures refl

pub returns : goal.returns
unfolding zero_rows
returns c =
    let a = c.args in
    let d : c.default-zero.result ≡ zero_row = search rules in
    stored_all c.loop-i.invariant (omega arith) ∙ ap (λ (z : Vec4). put a.work.now a.to (flat4 (table a.n (λ (_ : ℕ). z)))) d
