-- The rest shape is read from the two halves of its part.
use Rattle.matrix.proofs.Shapes.{shape_kept}
use Rattle.bench.specs.Step.{energy_of, picked_system}
use Rattle.bench.proofs.Staging.{rest_halves}
use Rattle.bench.proofs.step.begin.assemble.Goals as goal

pub returns-clause-value : goal.returns-clause-value
unfolding energy_of
returns-clause-value c =
    let a = c.args in
    let p = rw c.unwrap.ensures at c.first_chunk.ensures.cases in
    let q = rw c.unwrap-2.ensures at c.last_chunk.ensures.cases in
    rw (c.wdwddw_hair_system-energy.ensures.value, rest_halves a.rest.now a.p.n.count a.p.n.in_range.1 c.told-rest p.same q.1.same)

pub returns-clause-work_after : goal.returns-clause-work_after
unfolding picked_system
returns-clause-work_after c =
    let a = c.args in
    let e = c.wdwddw_hair_system-energy.ensures in
    let p = rw c.unwrap.ensures at c.first_chunk.ensures.cases in
    let q = rw c.unwrap-2.ensures at c.last_chunk.ensures.cases in
    rw (c.add_picked.ensures.work_after, shape_kept a.work.now _ e.after_vectors_kept a.p.n.count, e.work_after, rest_halves a.rest.now a.p.n.count a.p.n.in_range.1 c.told-rest p.same q.1.same)
