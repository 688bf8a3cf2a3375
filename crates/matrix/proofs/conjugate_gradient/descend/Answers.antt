-- The calls in order are the stores of the lemma.
use Rattle.std.proofs.Common.{refl}
use Rattle.matrix.proofs.Descent.{descends}
use Rattle.matrix.proofs.conjugate_gradient.descend.Goals as goal

pub returns : goal.returns
returns c =
    let square = c.add_scaled_and_square.ensures in
    let all = descends _ _ _ _ _ _ _ _ _ c.args.n.in_range c.told-work c.mult_vec.ensures c.dot-pap.ensures refl c.add_scaled_vector.ensures square.work_after square.value in
    record { vectors_after = all.0; kept = all.1 }
