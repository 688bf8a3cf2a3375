-- From the last divisor to the first: each one goes before those that the series has.
use Rattle.std.proofs.Common.{rules, []}
use Rattle.std.proofs.lemmas.List.{append-nil}
use Rattle.vectors.proofs.Series.{none, more, all}
use Rattle.vectors.proofs.angle.series.Goals as goal

pub loop-d-init : goal.loop-d-init
loop-d-init c = ([], search (rules, append-nil), none c.args.z)

pub loop-d-preserved : goal.loop-d-preserved
loop-d-preserved c =
    let i = c.loop-d.invariant in
    more c.args.z _ c.in-Some.d.now _ _ _ i.0 i.1 c.in-Some.ensures.steps i.2

pub returns : goal.returns
returns c =
    let i = c.loop-d.invariant in
    all c.args.z _ _ _ i.0 c.in-None.ensures.steps.0 i.1 i.2
