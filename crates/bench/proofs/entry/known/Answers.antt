-- Each return is the row whose test was the first to hold.
use Rattle.std.proofs.Common.{le-leb}
use borrow.Author.Tests.{lt-leb}
use Rattle.bench.specs.Refusals.{refusal_number, told}
use Rattle.bench.proofs.EntryRows.{seat_tests}
use Rattle.bench.proofs.entry.known.Goals as goal

pub returns-then-long-good_record : goal.returns-then-long-good_record
unfolding told refusal_number
returns-then-long-good_record c = let a = c.args in rw (seat_tests a.long a.seat a.seats.now, rw c.good_record.ensures at c.if-long-good_record.true)

pub returns-then-seat-ge-SEATS : goal.returns-then-seat-ge-SEATS
unfolding told refusal_number
returns-then-seat-ge-SEATS c = let a = c.args in rw (seat_tests a.long a.seat a.seats.now, rw c.good_record.ensures at c.if-long-good_record.false, le-leb _ _ c.if-seat-ge-SEATS.true)

pub returns : goal.returns
unfolding told
returns c = let a = c.args in rw (seat_tests a.long a.seat a.seats.now, rw c.good_record.ensures at c.if-long-good_record.false, lt-leb _ _ c.if-seat-ge-SEATS.false)
