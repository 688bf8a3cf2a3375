-- Each return is the first test that failed, or none; only then the drape is written.
use Rattle.std.proofs.Common.{◌≡◌, refl, true, false}
use Rattle.matrix.specs.HairSystem.{staged_shape}
use Rattle.matrix.specs.ConjugateGradient.{vectors_at, outcome}
use Rattle.bench.specs.Refusals.{refusal_number, told}
use Rattle.bench.specs.Update.{turns_fit}
use Rattle.bench.specs.Step.{outcome_is_finite}
use Rattle.bench.proofs.Ending.{ends_nine, ends_ten, ends_eleven, ends_well}
use Rattle.bench.proofs.step.finish.finish.Goals as goal

pub returns-then-not-solution_is_finite : goal.returns-then-not-solution_is_finite
unfolding told refusal_number outcome_is_finite
returns-then-not-solution_is_finite g c =
    let a = c.args in
    let n = a.n.count in
    let o = outcome (vectors_at n a.work.now) a.s.count a.s.ratio in
    let h : outcome_is_finite o ≡ false = rw c.solution_is_finite.ensures at c.if-not-solution_is_finite.true in
    record { number = ends_nine n a.pins.now (staged_shape n a.work.now) o _ h; drape_after = refl }

pub returns-then-not-update_solution_hair : goal.returns-then-not-update_solution_hair
unfolding told refusal_number outcome_is_finite
returns-then-not-update_solution_hair g c =
    let a = c.args in
    let n = a.n.count in
    let o = outcome (vectors_at n a.work.now) a.s.count a.s.ratio in
    let now = staged_shape n a.work.now in
    let h : outcome_is_finite o ≡ true = rw c.solution_is_finite.ensures at c.if-not-solution_is_finite.false in
    let k : turns_fit n a.pins.now now o.left.u ≡ false = rw c.update_solution_hair.ensures.value at c.if-not-update_solution_hair.true in
    record { number = ends_ten n a.pins.now now o _ h k; drape_after = refl }

pub returns-then-not-stage_end : goal.returns-then-not-stage_end
unfolding told refusal_number outcome_is_finite
returns-then-not-stage_end g c =
    let a = c.args in
    let n = a.n.count in
    let o = outcome (vectors_at n a.work.now) a.s.count a.s.ratio in
    let now = staged_shape n a.work.now in
    let m = c.update_solution_hair.ensures in
    let h : outcome_is_finite o ≡ true = rw c.solution_is_finite.ensures at c.if-not-solution_is_finite.false in
    let k : turns_fit n a.pins.now now o.left.u ≡ true = rw m.value at c.if-not-update_solution_hair.false in
    record { number = ends_eleven n a.pins.now now o _ h k (rw (c.stage_end.ensures.value, m.work_after) at c.if-not-stage_end.true); drape_after = refl }

pub returns : goal.returns
unfolding told outcome_is_finite
returns g c =
    let a = c.args in
    let n = a.n.count in
    let o = outcome (vectors_at n a.work.now) a.s.count a.s.ratio in
    let now = staged_shape n a.work.now in
    let m = c.update_solution_hair.ensures in
    let v = c.stage_end.ensures in
    let h : outcome_is_finite o ≡ true = rw c.solution_is_finite.ensures at c.if-not-solution_is_finite.false in
    let k : turns_fit n a.pins.now now o.left.u ≡ true = rw m.value at c.if-not-update_solution_hair.false in
    record {
      number = ends_well n a.pins.now now o _ h k (rw (v.value, m.work_after) at c.if-not-stage_end.false);
      drape_after = rw (v.shape_kept, m.work_after) at c.copy.ensures;
    }
