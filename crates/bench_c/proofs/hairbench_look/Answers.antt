-- By what the bench answers: refused, or the place of the look.
use Rattle.std.proofs.Common.{◌≡◌, rules}
use Rattle.bench_c.proofs.Looked.{nowhere, crossed}
use Rattle.bench_c.proofs.hairbench_look.Goals as goal

pub returns-clause-place : goal.returns-clause-place
returns-clause-place c pins =
    let e = c.place_of.ensures in
    let z : c.default.result ≡ nowhere = search rules in
    (crossed _ _ _ _ _ pins c.place_of.result c.map_or.result (rw z at c.map_or.ensures) (e.number pins) e.place (e.shown pins)).is

pub returns-clause-part : goal.returns-clause-part
returns-clause-part c pins =
    let e = c.place_of.ensures in
    let z : c.default.result ≡ nowhere = search rules in
    (crossed _ _ _ _ _ pins c.place_of.result c.map_or.result (rw z at c.map_or.ensures) (e.number pins) e.place (e.shown pins)).shows
