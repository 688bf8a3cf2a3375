-- The parts are put together; a step that does not begin leaves the drape.
use Rattle.std.proofs.Common.{◌∙◌}
use Rattle.matrix.specs.ConjugateGradient.{vectors_at, outcome}
use Rattle.bench.specs.Strand.{strand}
use Rattle.bench.specs.Refusals.{told, answered}
use Rattle.bench.specs.Step.{begun_with}
use Rattle.bench.proofs.Composed.{answer_declined, drape_declined, answer_on, accepted_on, drape_on_lem}
use Rattle.bench.proofs.step.update.Goals as goal

pub returns-in_err-energy : goal.returns-in_err-energy
unfolding told
returns-in_err-energy g c =
    let a = c.args in
    let t = strand a.p.n.count a.settings a.rest.now a.drape.now a.pins.now in
    let b = c.in_err-energy.ensures in
    record {
      value = answer_declined t a.p.pick (g.K.Kind.time a.kind) _ b.number _ c.from_residual.ensures.1;
      drape_after = drape_declined t a.p.pick (g.K.Kind.time a.kind) _ b.number;
    }

pub returns-in_err-finish : goal.returns-in_err-finish
unfolding told begun_with
returns-in_err-finish g c =
    let a = c.args in
    let t = strand a.p.n.count a.settings a.rest.now a.drape.now a.pins.now in
    let time = g.K.Kind.time a.kind in
    let b = c.in_ok-energy.ensures in
    let s = c.solve-s.ensures in
    let o = outcome (vectors_at a.p.n.count c.solve-s.new.work) c.solve-s.result.count c.solve-s.result.ratio in
    let f = c.finish.ensures in
    record {
      value = answer_on t a.p.pick time _ _ _ o b.number b.energy b.system b.shape s.after_vectors_kept s.outcome_is _ _ c.from_residual-in_err-finish.ensures.1 c.in_err-finish.ensures.number;
      drape_after = (rw f.number at f.drape_after) ∙ drape_on_lem t a.p.pick time _ _ _ o b.number b.energy b.system b.shape s.after_vectors_kept s.outcome_is;
    }

pub returns : goal.returns
unfolding told answered begun_with
returns g c =
    let a = c.args in
    let t = strand a.p.n.count a.settings a.rest.now a.drape.now a.pins.now in
    let time = g.K.Kind.time a.kind in
    let b = c.in_ok-energy.ensures in
    let s = c.solve-s.ensures in
    let o = outcome (vectors_at a.p.n.count c.solve-s.new.work) c.solve-s.result.count c.solve-s.result.ratio in
    let f = c.finish.ensures in
    record {
      value = accepted_on t a.p.pick time _ _ _ o b.number b.energy b.system b.shape s.after_vectors_kept s.outcome_is c.in_ok-finish.ensures.number;
      drape_after = (rw f.number at f.drape_after) ∙ drape_on_lem t a.p.pick time _ _ _ o b.number b.energy b.system b.shape s.after_vectors_kept s.outcome_is;
    }
