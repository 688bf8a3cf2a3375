-- Where the seat is refused, so is the call; else it is asked whether it is empty.
use Rattle.std.proofs.Common.{sym, [], eqb, get_or, arith, eq-eqb, ne_eqb}
use Rattle.bench.specs.Calls.{seat_rows}
use Rattle.bench.specs.Refusals.{refusal_number, told}
use Rattle.bench.proofs.Refusals.{refused_on}
use Rattle.bench.proofs.EntryRows.{seat_is, third_test}
use Rattle.bench.proofs.entry.vacant.Goals as goal

pub returns-in_err-known : goal.returns-in_err-known
unfolding told
returns-in_err-known c =
    let a = c.args in
    refused_on _ _ _ _ c.from_residual.ensures.1 (third_test a.long a.seat a.seats.now (eqb (get_or a.seats.now.counts a.seat 0) 0) _ c.in_err-known.ensures)

pub offset_bounds-counts-seat : goal.offset_bounds-counts-seat
unfolding told seat_rows
offset_bounds-counts-seat c = omega (arith, seat_is _ _ _ [] (sym c.in_ok-known.ensures))

pub bounds-counts-seat : goal.bounds-counts-seat
unfolding told seat_rows
bounds-counts-seat c = seat_is _ _ _ [] (sym c.in_ok-known.ensures)

pub returns-then-counts-seat-ne0 : goal.returns-then-counts-seat-ne0
unfolding told refusal_number
returns-then-counts-seat-ne0 c =
    let a = c.args in
    rw (third_test a.long a.seat a.seats.now (eqb (get_or a.seats.now.counts a.seat 0) 0) 0 c.in_ok-known.ensures, ne_eqb _ _ c.if-counts-seat-ne0.true)

pub returns : goal.returns
unfolding told
returns c =
    let a = c.args in
    rw (third_test a.long a.seat a.seats.now (eqb (get_or a.seats.now.counts a.seat 0) 0) 0 c.in_ok-known.ensures, eq-eqb _ _ c.if-counts-seat-ne0.false)
