-- A turn of the loop stores one frame more. The last vertex has no edge, and its frame stays.
use Rattle.std.proofs.Common.{arith}
use Rattle.matrix.proofs.Widths.{stored_none}
use Rattle.bench.proofs.EdgeLaws.{across_more, across_all}
use Rattle.bench.proofs.rod3_darboux.orthonormalize_framex_for_hair.Goals as goal

pub loop-i-init : goal.loop-i-init
loop-i-init c = stored_none _ _ _

pub loop-i-preserved : goal.loop-i-preserved
loop-i-preserved c = across_more _ _ _ _ _ _ c.loop-i.invariant (omega arith) (λ k a b d e. omega arith) c.orthonormal.ensures c.store.ensures

pub returns : goal.returns
returns c = across_all _ _ _ _ _ _ c.loop-i.invariant (omega arith) (omega arith)
