-- The two ends are the rows of the two vertices.
use Rattle.bench.proofs.EdgeLaws.{edge_at_lem}
use Rattle.bench.proofs.rod3_darboux.along.Goals as goal

pub returns : goal.returns
returns c = edge_at_lem _ _ _ _ c.args.e.there c.pair.ensures.first c.pair.ensures.second c.sub.ensures
