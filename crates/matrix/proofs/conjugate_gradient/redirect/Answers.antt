-- The call is the store of the lemma.
use Rattle.matrix.proofs.Descent.{redirects}
use Rattle.matrix.proofs.conjugate_gradient.redirect.Goals as goal

pub returns : goal.returns
returns c =
    let all = redirects _ _ _ _ _ c.args.n.in_range c.told-work c.scale_and_add_vec.ensures in
    record { vectors_after = all.0; kept = all.1 }
