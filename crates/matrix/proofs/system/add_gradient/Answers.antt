-- The row that is stored is the old one and v.
use Rattle.vectors.specs.Vec4.{vec4_add}
use Rattle.vectors.specs.declared.vec4.Vec4.{Vec4}
use Rattle.matrix.specs.HairSystem.{plus_gradient}
use Rattle.matrix.proofs.SystemLaws.{row_changed, row_changed_after}
use Rattle.matrix.proofs.system.add_gradient.Goals as goal

pub returns : goal.returns
unfolding plus_gradient
returns c =
    let a = c.args in
    let e = rw (c.add.ensures, c.load-g.ensures) at c.store.ensures in
    record {
      work_after = row_changed a.n.count a.i (λ (x : Vec4). vec4_add x a.v) _ _ a.n.in_range c.told-work c.requires.i_lt_n e;
      after_vectors_kept = row_changed_after a.n.count a.i (λ (x : Vec4). vec4_add x a.v) _ _ a.n.in_range c.told-work c.requires.i_lt_n e;
    }
