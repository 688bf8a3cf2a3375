-- Refused before its strand is looked at, it leaves everything; else it answers and leaves what the step of the strand does.
use Rattle.std.proofs.Common.{sym, arith}
use Rattle.bench.specs.Strand.{strand_of, bench_of}
use Rattle.bench.specs.Refusals.{told}
use Rattle.bench.proofs.StepCalls.{Steps, steps, step_refused, step_done}
use Rattle.bench.proofs.steps.stepped.Given.{Over}
use Rattle.bench.proofs.steps.stepped.Goals as goal
use Rattle.bench.proofs.steps.stepped.Goals.{In_ok-p}

-- what a step that is not refused has passed
accepted : (g : Over) (c : In_ok-p g) → Steps c.args.work.now c.args.seat c.args.pick (g.K.Kind.time c.args.kind) (bench_of c.args.seats.now c.args.rest.now c.args.drape.now c.args.pins.now)
unfolding told
accepted g c =
    let a = c.args in
    let time = g.K.Kind.time a.kind in
    steps a.work.now a.seat a.pick time (bench_of a.seats.now a.rest.now a.drape.now a.pins.now) (sym c.in_ok-p.ensures.number)

pub returns-in_err-p : goal.returns-in_err-p
unfolding told
returns-in_err-p g c =
    let a = c.args in
    let time = g.K.Kind.time a.kind in
    let q = step_refused a.work.now a.seat a.pick time (bench_of a.seats.now a.rest.now a.drape.now a.pins.now) _ _ c.from_residual.ensures.1 c.in_err-p.ensures.number a.work.now in
    record { answer = q.0; numbers = q.1.0; after = q.1.1.0; leaves_work = q.1.1.1 }

pub unwrap-requires : goal.unwrap-requires
unwrap-requires g c = c.as_mut_array.ensures.variant.1 (accepted g (goal.at.unwrap-requires g c).In_ok-p).work

pub offset_bounds-settings-seat : goal.offset_bounds-settings-seat
offset_bounds-settings-seat g c = omega (arith, (accepted g (goal.at.offset_bounds-settings-seat g c).In_ok-p).seat)

pub bounds-settings-seat : goal.bounds-settings-seat
bounds-settings-seat g c = (accepted g (goal.at.bounds-settings-seat g c).In_ok-p).seat

pub on_seat-requires : goal.on_seat-requires
on_seat-requires g c =
    let p = accepted g (goal.at.on_seat-requires g c).In_ok-p in
    record { seat_lt_seats = p.seat; rest_len = p.rest; drape_len = p.drape; pins_len = p.pins }

pub returns : goal.returns
unfolding told strand_of
returns g c =
    let a = c.args in
    let time = g.K.Kind.time a.kind in
    let e = rw (c.in_ok-p.ensures.count, c.in_ok-p.ensures.pick) at c.on_seat.ensures in
    let q = step_done a.work.now a.seat a.pick time (bench_of a.seats.now a.rest.now a.drape.now a.pins.now) (sym c.in_ok-p.ensures.number) _ _ a.work.now _ e.value e.drape_after in
    record { answer = q.0; numbers = q.1.0; after = q.1.1.0; leaves_work = q.1.1.1 }
