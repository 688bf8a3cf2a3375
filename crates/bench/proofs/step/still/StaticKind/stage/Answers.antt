-- The staged parts are read as they were stored, the positions also after the frames.
use Rattle.bench.specs.Step.{shape_by}
use Rattle.bench.proofs.Staging.{staged_drape}
use Rattle.bench.proofs.step.still.StaticKind.stage.Goals as goal

pub returns : goal.returns
unfolding shape_by
returns c = let a = c.args in staged_drape a.work.now a.drape.now a.n.count a.n.in_range.1 c.told-work c.told-drape c.copy.ensures c.copy-2.ensures
