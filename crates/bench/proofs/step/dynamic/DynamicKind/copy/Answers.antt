-- The staged numbers are those of the staged vectors.
use Rattle.bench.specs.Step.{drape_after}
use Rattle.bench.proofs.Finishing.{copied_dynamic}
use Rattle.bench.proofs.step.dynamic.DynamicKind.copy.Goals as goal

pub returns : goal.returns
unfolding drape_after
returns c =
    let a = c.args in
    rw (c.copy-3.ensures, c.copy-2.ensures, c.copy.ensures, c.store_positions.ensures, copied_dynamic a.work.now a.drape.now a.n.count a.n.in_range.1 c.told-work c.told-drape a.self.dt a.pins.now c.requires)
