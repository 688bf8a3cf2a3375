-- The right-hand side, then the matrix.
use Rattle.std.proofs.Common.{◌∙◌}
use Rattle.matrix.proofs.Fixing.{right_fixed, right_fixed_after}
use Rattle.matrix.proofs.pins.fix_system.Goals as goal

pub returns : goal.returns
returns c =
    let a = c.args in
    let n = a.n in
    let e = c.set_fix_dof_to_rhs_vector.ensures in
    let f = c.set_fixed_bc.ensures in
    record {
      work_after = f.work_after ∙ right_fixed n.count a.pins.now _ _ n.in_range c.told-work e;
      after_vectors_kept = f.after_vectors_kept ∙ right_fixed_after n.count a.pins.now _ _ n.in_range c.told-work e;
    }
