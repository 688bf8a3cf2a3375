-- The working copy is stored first, then the frames, which are rewritten along it.
use Rattle.bench.specs.Step.{predicted_copy, predicted_shape, shape_by}
use Rattle.bench.proofs.Staging.{staged_prediction, length_predicted}
use Rattle.bench.proofs.step.dynamic.DynamicKind.stage.Goals as goal

pub returns : goal.returns
unfolding shape_by predicted_shape
returns c =
    let a = c.args in
    let n = a.n.count in
    let dt = a.self.dt in
    staged_prediction a.work.now a.drape.now n (predicted_copy dt n a.pins.now a.drape.now) a.n.in_range.1 c.told-work c.told-drape (length_predicted dt n a.pins.now a.drape.now) c.predict.ensures c.copy.ensures c.orthonormalize_framex_for_hair.ensures
