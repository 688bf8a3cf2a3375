-- Each return is the first test that failed, or none; the shape and the system in the area are those of the definition.
use Rattle.std.proofs.Common.{◌∙◌}
use Rattle.matrix.proofs.Shapes.{shape_kept}
use Rattle.bench.specs.Refusals.{refusal_number, told}
use Rattle.bench.specs.Step.{shape_by, begun_with}
use Rattle.bench.proofs.Beginning.{begins_seven, begins_eight, begins_well}
use Rattle.bench.proofs.step.begin.begin.Goals as goal

pub returns-then-not-staged_edges_fit-clause-number : goal.returns-then-not-staged_edges_fit-clause-number
unfolding told refusal_number begun_with
returns-then-not-staged_edges_fit-clause-number g c =
    let a = c.args in
    let n = a.p.n.count in
    let time = g.K.Kind.time a.kind in
    let b = begun_with time n a.settings a.rest.now a.p.pick (shape_by time n a.pins.now a.drape.now) in
    begins_seven n b (rw (c.staged_edges_fit.ensures, c.stage.ensures) at c.if-not-staged_edges_fit.true)

pub returns-then-not-is_finite : goal.returns-then-not-is_finite
unfolding told refusal_number begun_with
returns-then-not-is_finite g c =
    let a = c.args in
    let n = a.p.n.count in
    let time = g.K.Kind.time a.kind in
    let b = begun_with time n a.settings a.rest.now a.p.pick (shape_by time n a.pins.now a.drape.now) in
    let h = c.stage.ensures in
    let e = rw h at c.assemble-energy.ensures in
    let i = rw e.work_after at c.add_inertia.ensures in
    let f = rw (c.staged_edges_fit.ensures, h) at c.if-not-staged_edges_fit.false in
    record {
      number = begins_eight n b f (rw (c.is_finite.ensures, i.work_after, e.value) at c.if-not-is_finite.true);
      energy = tt;
      system = tt;
      shape = shape_kept _ _ (i.after_vectors_kept ∙ e.after_vectors_kept) n ∙ h;
    }

pub returns : goal.returns
unfolding told begun_with
returns g c =
    let a = c.args in
    let n = a.p.n.count in
    let time = g.K.Kind.time a.kind in
    let b = begun_with time n a.settings a.rest.now a.p.pick (shape_by time n a.pins.now a.drape.now) in
    let h = c.stage.ensures in
    let e = rw h at c.assemble-energy.ensures in
    let i = rw e.work_after at c.add_inertia.ensures in
    let f = rw (c.staged_edges_fit.ensures, h) at c.if-not-staged_edges_fit.false in
    record {
      number = begins_well n b f (rw (c.is_finite.ensures, i.work_after, e.value) at c.if-not-is_finite.false);
      energy = e.value;
      system = i.work_after;
      shape = shape_kept _ _ (i.after_vectors_kept ∙ e.after_vectors_kept) n ∙ h;
    }
