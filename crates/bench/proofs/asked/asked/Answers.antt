-- The entry's number, or the row whose test was the first to hold behind it.
use Rattle.bench.specs.Refusals.{refusal_number, told}
use Rattle.bench.proofs.Refusals.{refused_on}
use Rattle.bench.proofs.AskedRows.{asked_tests}
use Rattle.bench.proofs.asked.asked.Goals as goal

pub returns-in_err-n-clause-number : goal.returns-in_err-n-clause-number
unfolding told
returns-in_err-n-clause-number g c =
    let a = c.args in
    refused_on _ _ _ _ c.from_residual.ensures.1 (asked_tests a.seats.now a.rest.now a.drape.now a.pins.now a.work.now a.seat a.pick (g.K.Kind.time a.kind) _ (rw c.are_whole.ensures at c.in_err-n.ensures.number))

pub returns-then-not-pick_fits-clause-number : goal.returns-then-not-pick_fits-clause-number
unfolding told refusal_number
returns-then-not-pick_fits-clause-number g c =
    let a = c.args in
    rw (asked_tests a.seats.now a.rest.now a.drape.now a.pins.now a.work.now a.seat a.pick (g.K.Kind.time a.kind) 0 (rw c.are_whole.ensures at c.in_ok-n.ensures.number), rw (c.pick_fits.ensures, c.in_ok-n.ensures.count) at c.if-not-pick_fits.true)

pub returns-then-not-goal_fits-fits-clause-number : goal.returns-then-not-goal_fits-fits-clause-number
unfolding told refusal_number
returns-then-not-goal_fits-fits-clause-number g c =
    let a = c.args in
    rw (asked_tests a.seats.now a.rest.now a.drape.now a.pins.now a.work.now a.seat a.pick (g.K.Kind.time a.kind) 0 (rw c.are_whole.ensures at c.in_ok-n.ensures.number), rw (c.pick_fits.ensures, c.in_ok-n.ensures.count) at c.if-not-pick_fits.false, rw (c.goal_fits.ensures, c.fits.ensures) at c.if-not-goal_fits-fits.true)

pub returns-clause-number : goal.returns-clause-number
unfolding told
returns-clause-number g c =
    let a = c.args in
    rw (asked_tests a.seats.now a.rest.now a.drape.now a.pins.now a.work.now a.seat a.pick (g.K.Kind.time a.kind) 0 (rw c.are_whole.ensures at c.in_ok-n.ensures.number), rw (c.pick_fits.ensures, c.in_ok-n.ensures.count) at c.if-not-pick_fits.false, rw (c.goal_fits.ensures, c.fits.ensures) at c.if-not-goal_fits-fits.false)
