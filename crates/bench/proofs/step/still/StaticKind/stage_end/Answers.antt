-- The three parts are those that the definition reads of the drape after the step; its velocities stay.
use Rattle.std.proofs.Common.{sym}
use Rattle.bench.specs.Step.{drape_after}
use Rattle.bench.proofs.Finishing.{finite_static}
use Rattle.bench.proofs.step.still.StaticKind.stage_end.Goals as goal

pub returns-clause-value : goal.returns-clause-value
unfolding drape_after
returns-clause-value c =
    let f = finite_static c.args.work.now c.args.drape.now c.args.n.count c.args.n.in_range.1 c.told-work c.told-drape in
    rw (c.vectors_are_finite.ensures, c.vectors_are_finite-2.ensures, c.vectors_are_finite-3.ensures) (sym f)
