-- The law of the difference is the whole proof.
use Rattle.vectors.proofs.Finiteness.{by_difference}
use Rattle.vectors.proofs.finite.F64Finite.is_finite.Goals as goal

pub returns : goal.returns
returns c = by_difference c.args.self
