-- The rows that a step is asked before it begins, as the code tests them.
use mathlib.Core.Path.{◌≡◌, refl}
use mathlib.Core.Bool.{not, cond, ◌&&◌}
use mathlib.Core.List.{List, [], ◌∷◌, ◌++◌}
use Prim.Native.Nat.{ℕ}
use lib.Dec.{eqb}
use lib.ListN.{length, get_or}
use lib.Ieee.{Float}
use Rattle.matrix.specs.Area.{work_numbers}
use Rattle.matrix.specs.System.{every}
use Rattle.bench.specs.declared.answers.Pick.{Pick}
use Rattle.bench.specs.declared.seats.Record.{Record}
use Rattle.bench.specs.Areas.{rest_numbers, drape_numbers, pin_bytes}
use Rattle.bench.specs.Strand.{strand_of, bench_of}
use Rattle.bench.specs.Rows.{first}
use Rattle.bench.specs.Step.{Time, pick_fits, goal_fits, time_fits}
use Rattle.bench.specs.Asks.{step, lends, call_with, lent_of}
use Rattle.bench.specs.Requests.{taken, asked_rows}
use Rattle.bench.specs.Calls.{rest_long, drape_long, pins_long, lent_long, seat_rows}
use Rattle.bench.proofs.EntryRows.{all_four, test_one, test_two, no_test, entry_then}

pub asked_tests : (r : Record) (rest drape : List Float) (pins : List ℕ) (work : List Float) (s : ℕ) (p : Pick) (d : Time) (k : ℕ)
    → k ≡ first (seat_rows (eqb (length rest) rest_numbers && eqb (length drape) drape_numbers && eqb (length pins) pin_bytes && eqb (length work) work_numbers) (s ∷ []) r ++ (taken (get_or r.counts s 0) ∷ []))
    → first (seat_rows (lent_long (lends (step p d)) (lent_of (call_with work s (step p d))) (bench_of r rest drape pins)) (s ∷ []) r ++ asked_rows (strand_of s (bench_of r rest drape pins)) p d)
    ≡ cond (eqb k 0) (cond (not (pick_fits (get_or r.counts s 0) p)) 5 (cond (not (goal_fits p && time_fits d)) 6 0)) k
unfolding lent_long lent_of every strand_of
asked_tests r rest drape pins work s p d k e =
    let b = bench_of r rest drape pins in
    entry_then _ s r _ (all_four (rest_long b) (drape_long b) (pins_long b) (eqb (length work) work_numbers)) _ refl _ _ (test_one 5 _ _ _ (test_two 6 _ _ _ _ no_test)) k e
