-- Where the seat is refused, so is the call; else it is asked whether it is taken. Of a good seat, a count that is none of a strand's is 0.
use Rattle.std.proofs.Common.{◌≡◌, ◌≢◌, ℕ, ◌≤◌, sym, refl, not, cond, [], eqb, get_or, Option, Some, None, IsSome, ◌↔◌, arith, eq-eqb, ne_eqb}
use Rattle.std.specs.Option.{ok_or}
use Rattle.matrix.specs.declared.vertices.Vertices.{Vertices}
use Rattle.matrix.proofs.Cases.{by_equality}
use Rattle.bench.specs.declared.refusal.Refusal.TheVariants.{Occupancy}
use Rattle.bench.specs.Strand.{entry_of}
use Rattle.bench.specs.Calls.{seat_rows}
use Rattle.bench.specs.Refusals.{refusal_number, told}
use Rattle.bench.proofs.Refusals.{refused_on}
use Rattle.bench.proofs.GoodSeats.{Between, taken_seat}
use Rattle.bench.proofs.EntryRows.{entry_passed, seat_is, third_test}
use Rattle.bench.proofs.entry.taken.Goals as goal

strand_or_none : (o : Option Vertices) (n : ℕ) → IsSome o ↔ ((2 ≤ n) × (n ≤ 32)) → (n ≢ 0 → Between n) → told (ok_or o Occupancy) ≡ cond (not (not (eqb n 0))) 3 0
unfolding told refusal_number
strand_or_none None n v h = by_equality n 0 (λ z. rw (eq-eqb n 0 z)) (λ d. absurd (cc (v.1 ((h d).least, (h d).most))))
strand_or_none (Some x) n v h = rw (ne_eqb n 0 (λ z. absurd (omega (arith, (v.0 refl).0))))

pub returns-in_err-known-clause-number : goal.returns-in_err-known-clause-number
unfolding told
returns-in_err-known-clause-number c =
    let a = c.args in
    refused_on _ _ _ _ c.from_residual.ensures.1 (third_test a.long a.seat a.seats.now (not (eqb (get_or a.seats.now.counts a.seat 0) 0)) _ c.in_err-known.ensures)

pub offset_bounds-counts-seat : goal.offset_bounds-counts-seat
unfolding told seat_rows
offset_bounds-counts-seat c = omega (arith, seat_is _ _ _ [] (sym c.in_ok-known.ensures))

pub bounds-counts-seat : goal.bounds-counts-seat
unfolding told seat_rows
bounds-counts-seat c = seat_is _ _ _ [] (sym c.in_ok-known.ensures)

pub returns-clause-number : goal.returns-clause-number
unfolding told seat_rows
returns-clause-number c =
    let a = c.args in
    let n = get_or a.seats.now.counts a.seat 0 in
    let good = (entry_passed a.long a.seat a.seats.now [] (sym c.in_ok-known.ensures)).good in
    rw (c.ok_or.ensures.value, third_test a.long a.seat a.seats.now (not (eqb n 0)) 0 c.in_ok-known.ensures) (strand_or_none c.new.result n c.new.ensures.variant (taken_seat (entry_of a.seat a.seats.now) good))
