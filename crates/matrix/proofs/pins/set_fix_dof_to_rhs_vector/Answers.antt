-- A turn of the loop stores one row more. The rows still to be read are the old ones.
use Rattle.std.proofs.Common.{◌≡◌, ◌∙◌, List, ℕ, ◌+◌, ◌*◌, sym, ap, arith}
use Rattle.std.specs.Prelude.{Float}
use Rattle.vectors.specs.declared.vec4.Vec4.{Vec4}
use Rattle.matrix.specs.Parts.{put, table}
use Rattle.matrix.specs.Rows.{zero_row, row4, rows4, flat4}
use Rattle.matrix.specs.Pins.{row_unless_fixed, set_fix_dof_to_rhs_vector}
use Rattle.matrix.proofs.Parts.{table_ext, get_or_table}
use Rattle.matrix.proofs.RowLaws.{stored_none, stored_more, unstored, stored_all}
use Rattle.matrix.proofs.pins.set_fix_dof_to_rhs_vector.Goals as goal

fixed_rows : (w : List Float) (o : ℕ) (pins : List ℕ) (n : ℕ) → table n (λ k. row_unless_fixed pins (4 * k) (row4 w (o + 4 * k))) ≡ set_fix_dof_to_rhs_vector n pins (rows4 w o n)
unfolding set_fix_dof_to_rhs_vector rows4
fixed_rows w o pins n = table_ext n _ _ (λ i l. ap (row_unless_fixed pins (4 * i)) (sym (get_or_table n (λ k. row4 w (o + 4 * k)) i zero_row l)))

pub loop-i-init : goal.loop-i-init
loop-i-init c = stored_none _ _ _

pub loop-i-preserved : goal.loop-i-preserved
unfolding row_unless_fixed
loop-i-preserved c =
    let l = c.loop-i in
    let old = unstored l.invariant (c.args.to + 4 * l.i) (λ j a b x y. omega arith) in
    stored_more l.invariant c.store.ensures (c.row_unless_fixed.ensures ∙ ap (row_unless_fixed c.args.pins.bytes.now (4 * l.i)) (c.load-v.ensures ∙ old))

pub returns : goal.returns
returns c =
    let a = c.args in
    stored_all c.loop-i.invariant (omega arith) ∙ ap (λ (l : List Vec4). put a.work.now a.to (flat4 l)) (fixed_rows a.work.now a.to a.pins.bytes.now a.pins.n.count)
