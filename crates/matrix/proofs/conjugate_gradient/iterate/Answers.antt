-- The first state, one iteration more, and the two ends.
use Rattle.std.proofs.Common.{arith, rules}
use Rattle.matrix.proofs.RowsPut.{kept_on}
use Rattle.matrix.proofs.Going.{going_first, going_spent, going_enough, going_on}
use Rattle.matrix.proofs.conjugate_gradient.iterate.Goals as goal

pub loop-count-init : goal.loop-count-init
loop-count-init c = record { within = omega arith; going = going_first _ _ _ _ _ _ c.told-work }

pub loop-count-preserved : goal.loop-count-preserved
loop-count-preserved c =
    let d = c.descend-next.ensures in
    let e = c.redirect.ensures in
    record {
      within = omega arith;
      going = going_on c.loop-count.invariant.going _ _ _ c.if-limit-count.false d.vectors_after c.root_if_below-ratio.ensures _ c.if-ratio-tolerance.false d.kept e.vectors_after e.kept (search rules);
    }

pub returns-then-limit-count : goal.returns-then-limit-count
returns-then-limit-count c =
    let g = c.loop-count.invariant.going in
    record { outcome_is = going_spent g _ c.sqrt-ratio.ensures c.if-limit-count.true; kept = g.keeps }

pub returns-then-ratio-tolerance : goal.returns-then-ratio-tolerance
returns-then-ratio-tolerance c =
    let g = c.loop-count.invariant.going in
    let d = c.descend-next.ensures in
    record {
      outcome_is = going_enough g _ _ _ c.if-limit-count.false d.vectors_after c.root_if_below-ratio.ensures c.if-ratio-tolerance.true;
      kept = kept_on g.keeps d.kept;
    }
