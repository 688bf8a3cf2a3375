-- A turn of the loop stores one row more and adds its square. The rows still to be read are apart from those stored, so they are the old ones.
use Rattle.std.proofs.Common.{◌≡◌, ◌∙◌, List, ◌+◌, ◌*◌, refl, sym, ap, arith}
use Rattle.vectors.specs.Number.{plus_zero}
use Rattle.vectors.specs.Vec4.{vec4_add, vec4_scale}
use Rattle.vectors.specs.declared.vec4.Vec4.{Vec4}
use Rattle.matrix.specs.Parts.{put, table}
use Rattle.matrix.specs.Rows.{rows4, flat4}
use Rattle.matrix.specs.SliceOfArray.{dot_from, dot_rows, add_scaled_vector}
use Rattle.matrix.proofs.Parts.{length_table}
use Rattle.matrix.proofs.RowLaws.{stored_none, stored_more, unstored, stored_all, zip_tables, dot_more}
use Rattle.matrix.proofs.RowsPut.{rows_put}
use Rattle.matrix.proofs.slice_of_array.add_scaled_and_square.Invariants.{moved}
use Rattle.matrix.proofs.slice_of_array.add_scaled_and_square.Goals as goal

pub loop-i-init : goal.loop-i-init
unfolding dot_from table
loop-i-init c = record { stored = stored_none _ _ _; square = refl }

pub loop-i-preserved : goal.loop-i-preserved
loop-i-preserved c =
    let l = c.loop-i in
    let own = unstored l.invariant.stored (c.args.to + 4 * l.i) (λ j a b x y. omega arith) in
    let other = unstored l.invariant.stored (c.args.from + 4 * l.i) (λ j a b x y. c.requires.apart j x (omega arith) (omega arith) (omega arith)) in
    let row : c.add-v.result ≡ moved c.args.work.now c.args.to c.args.alpha c.args.from l.i = simp (c.add-v.ensures, c.mul.ensures, c.load-a.ensures, c.load-b.ensures, own, other) in
    record {
      stored = stored_more l.invariant.stored c.store.ensures row;
      square = rw (l.invariant.square, c.dot-square.ensures, row) (sym (dot_more plus_zero l.i _ _));
    }

pub returns : goal.returns
unfolding add_scaled_vector rows4 dot_rows
returns c =
    let a = c.args in
    let l = c.loop-i in
    let e : l.i ≡ a.n = omega arith in
    let stored = stored_all l.invariant.stored e in
    let there = (rows_put a.work.now _ a.to a.n _ stored (length_table a.n _) c.requires.to_in_work).there in
    record {
      work_after = stored ∙ ap (λ (l : List Vec4). put a.work.now a.to (flat4 l)) (sym (zip_tables (λ (x y : Vec4). vec4_add x (vec4_scale y a.alpha)) a.n _ _));
      value = rw there (rw e at l.invariant.square);
    }
