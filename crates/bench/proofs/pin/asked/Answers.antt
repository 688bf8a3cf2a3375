-- The entry's number, or the row whose test was the first to hold behind it.
use Rattle.bench.specs.Refusals.{refusal_number, told}
use Rattle.bench.proofs.Refusals.{refused_on}
use Rattle.bench.proofs.PinRows.{pin_tests}
use Rattle.bench.proofs.pin.asked.Goals as goal

pub returns-in_err-n : goal.returns-in_err-n
unfolding told
returns-in_err-n c rest drape byte =
    let a = c.args in
    refused_on _ _ _ _ c.from_residual.ensures.1 (pin_tests a.seats rest drape a.pins.now a.seat a.vertex a.component byte _ c.in_err-n.ensures.number)

pub returns-then-not-vertex-n : goal.returns-then-not-vertex-n
unfolding told refusal_number
returns-then-not-vertex-n c rest drape byte =
    let a = c.args in
    rw (pin_tests a.seats rest drape a.pins.now a.seat a.vertex a.component byte 0 c.in_ok-n.ensures.number, rw c.in_ok-n.ensures.count at c.if-not-vertex-n.true)

pub returns : goal.returns
unfolding told
returns c rest drape byte =
    let a = c.args in
    rw (pin_tests a.seats rest drape a.pins.now a.seat a.vertex a.component byte 0 c.in_ok-n.ensures.number, rw c.in_ok-n.ensures.count at c.if-not-vertex-n.false)
