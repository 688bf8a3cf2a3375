-- Two stores of zeros, by what they leave.
use Rattle.matrix.proofs.Cleared.{cleared, cleared_after}
use Rattle.matrix.proofs.hair_system.clear.Goals as goal

pub returns : goal.returns
returns c =
    let n = c.args.n in
    record {
      work_after = cleared n.count _ _ _ n.in_range c.told-work c.set_zero.ensures c.set_zero-2.ensures;
      after_vectors_kept = cleared_after n.count _ _ _ n.in_range c.told-work c.set_zero.ensures c.set_zero-2.ensures;
    }
