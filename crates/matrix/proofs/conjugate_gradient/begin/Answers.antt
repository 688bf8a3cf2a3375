-- The calls in order are the stores of the lemma.
use Rattle.matrix.proofs.Descent.{begins}
use Rattle.matrix.proofs.conjugate_gradient.begin.Goals as goal

pub returns : goal.returns
returns c =
    let all = begins _ _ _ _ _ _ c.args.n.in_range c.told-work c.set_zero.ensures c.set_zero-2.ensures c.copy.ensures c.dot.ensures in
    record { vectors_after = all.0; kept = all.1 }
