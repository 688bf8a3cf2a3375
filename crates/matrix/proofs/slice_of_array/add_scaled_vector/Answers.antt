-- A turn of the loop stores one row more. The rows still to be read are apart from those stored, so they are the old ones.
use Rattle.std.proofs.Common.{◌∙◌, List, ◌+◌, ◌*◌, sym, ap, arith}
use Rattle.vectors.specs.Vec4.{vec4_add, vec4_scale}
use Rattle.vectors.specs.declared.vec4.Vec4.{Vec4}
use Rattle.matrix.specs.Parts.{put}
use Rattle.matrix.specs.Rows.{rows4, flat4}
use Rattle.matrix.specs.SliceOfArray.{add_scaled_vector}
use Rattle.matrix.proofs.RowLaws.{stored_none, stored_more, unstored, stored_all, zip_tables}
use Rattle.matrix.proofs.slice_of_array.add_scaled_vector.Goals as goal

pub loop-i-init : goal.loop-i-init
loop-i-init c = stored_none _ _ _

pub loop-i-preserved : goal.loop-i-preserved
loop-i-preserved c =
    let l = c.loop-i in
    let own = unstored l.invariant (c.args.to + 4 * l.i) (λ j a b x y. omega arith) in
    let other = unstored l.invariant (c.args.from + 4 * l.i) (λ j a b x y. c.requires.apart j x (omega arith) (omega arith) (omega arith)) in
    stored_more l.invariant c.store.ensures (simp (c.add.ensures, c.mul.ensures, c.load-u.ensures, c.load-p.ensures, own, other))

pub returns : goal.returns
unfolding add_scaled_vector rows4
returns c =
    let a = c.args in
    stored_all c.loop-i.invariant (omega arith) ∙ ap (λ (l : List Vec4). put a.work.now a.to (flat4 l)) (sym (zip_tables (λ (x y : Vec4). vec4_add x (vec4_scale y a.alpha)) a.n _ _))
