-- The entry's number is the whole call's: unload asks nothing else.
use Rattle.std.proofs.Common.{◌≡◌, ℕ, cond, ◌&&◌, List, [], ◌∷◌, ◌++◌, length, get_or, eqb, refl}
use Rattle.std.specs.Float.{Float}
use Rattle.matrix.specs.System.{every}
use Rattle.bench.specs.declared.seats.Record.{Record}
use Rattle.bench.specs.Areas.{rest_numbers, drape_numbers, pin_bytes}
use Rattle.bench.specs.Strand.{strand_of, bench_of}
use Rattle.bench.specs.Rows.{first}
use Rattle.bench.specs.Asks.{unload, call}
use Rattle.bench.specs.Refusals.{told}
use Rattle.bench.specs.Requests.{taken, case_at}
use Rattle.bench.specs.Calls.{rest_long, drape_long, pins_long, lent_long, seat_rows, case_of, done_of, number_of}
use Rattle.bench.proofs.Refusals.{refused_on}
use Rattle.bench.proofs.EntryRows.{all_three, no_test, entry_then}
use Rattle.bench.proofs.unload.asked.Goals as goal

unload_tests : (r : Record) (rest drape : List Float) (pins : List ℕ) (s k : ℕ)
    → k ≡ first (seat_rows (eqb (length rest) rest_numbers && eqb (length drape) drape_numbers && eqb (length pins) pin_bytes) (s ∷ []) r ++ (taken (get_or r.counts s 0) ∷ []))
    → number_of (call s unload) (bench_of r rest drape pins) ≡ cond (eqb k 0) 0 k
unfolding done_of case_of case_at strand_of lent_long every
unload_tests r rest drape pins s k e = let b = bench_of r rest drape pins in entry_then _ s r _ (all_three (rest_long b) (drape_long b) (pins_long b)) _ refl _ _ no_test k e

pub returns-in_err-taken : goal.returns-in_err-taken
unfolding told
returns-in_err-taken c =
    let a = c.args in
    refused_on _ _ _ _ c.from_residual.ensures.1 (unload_tests a.seats a.rest.now a.drape.now a.pins.now a.seat _ (rw c.are_whole-long.ensures at c.in_err-taken.ensures.number))

pub returns : goal.returns
unfolding told
returns c =
    let a = c.args in
    rw (unload_tests a.seats a.rest.now a.drape.now a.pins.now a.seat 0 (rw c.are_whole-long.ensures at c.in_ok-taken.ensures.number))
