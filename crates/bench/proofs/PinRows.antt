-- The rows of pin as its code tests them. Where all pass, one byte is stored, and the strand that pin leaves is the one with that byte.
use mathlib.Core.Path.{◌≡◌, refl, sym, ◌∙◌}
use mathlib.Core.Bool.{not, cond, ◌&&◌}
use mathlib.Core.List.{List, [], ◌∷◌, ◌++◌}
use Prim.Native.Nat.{ℕ, ◌+◌, ◌*◌, ◌<◌}
use native.Mathlib.Omega.{arith}
use lib.Dec.{eqb, ltb}
use lib.ListN.{length, get_or, set}
use lib.Seq.{set-get_or}
use lib.Ieee.{Float}
use borrow.Author.Tests.{ltb-true}
use Rattle.matrix.specs.System.{every}
use Rattle.matrix.proofs.Parts.{put_part, put_set}
use Rattle.bench.specs.declared.seats.Record.{Record}
use Rattle.bench.specs.Areas.{seats, rest_part, drape_part, pin_part, pin_bytes}
use Rattle.bench.specs.Strand.{strand_of, put_strand, put_all, bench_of, no_settings}
use Rattle.bench.specs.Rows.{first}
use Rattle.bench.specs.Answers.{said}
use Rattle.bench.specs.Asks.{pin, call}
use Rattle.bench.specs.Requests.{pinned_on, taken, case_at}
use Rattle.bench.specs.Calls.{pins_long, lent_long, seat_rows, case_of, done_of, number_of, answer_of, after_of}
use Rattle.bench.proofs.RowLaws.{demands_of, holds}
use Rattle.bench.proofs.EntryRows.{all_one, test_two, no_test, entry_then}
use Rattle.bench.proofs.Entered.{entered, call_done}

module _ (r : Record) (rest drape : List Float) (pins : List ℕ) (s v c x : ℕ) where
  pub pin_tests : (k : ℕ) → k ≡ first (seat_rows (eqb (length pins) pin_bytes) (s ∷ []) r ++ (taken (get_or r.counts s 0) ∷ []))
      → number_of (call s (pin v c x)) (bench_of r rest drape pins) ≡ cond (eqb k 0) (cond (not (ltb v (get_or r.counts s 0) && ltb c 4)) 5 0) k
  unfolding done_of case_of case_at strand_of lent_long every
  pin_tests k e = entry_then _ s r _ (all_one (pins_long (bench_of r rest drape pins))) _ refl _ _ (test_two 5 _ _ _ _ no_test) k e

  -- what holds where pin is accepted
  pub record Pins : Type 0 where
    pub long : length pins ≡ pin_bytes
    pub seat : s < seats
    pub vertex : v < 32
    pub component : c < 4

  pub pin_accepted : (k : ℕ) → k ≡ number_of (call s (pin v c x)) (bench_of r rest drape pins) → k ≡ 0 → Pins
  unfolding case_at strand_of demands_of every
  pin_accepted k e z =
      let h = entered [] s (pin v c x) (bench_of r rest drape pins) k e z in
      let w : v < get_or r.counts s 0 = ltb-true _ _ (holds _ refl h.rows 5 0) in
      record { long = h.areas.pins refl; seat = h.seat; vertex = omega (arith, h.small); component = ltb-true c 4 (holds _ refl h.rows 5 1) }

  -- the one byte
  written : Pins → put_strand s (pinned_on v c x (strand_of s (bench_of r rest drape pins))) (bench_of r rest drape pins) ≡ bench_of r rest drape (set pins (pin_part * s + (4 * v + c)) x)
  unfolding put_strand strand_of pinned_on
  written p = λ i. record {
    seats = record { counts = set-get_or r.counts s 0 i; settings = set-get_or r.settings s no_settings i };
    rest = put_part rest (rest_part * s) rest_part i;
    drape = put_part drape (drape_part * s) drape_part i;
    pins = put_set pins (pin_part * s) pin_part (4 * v + c) x (omega arith) i;
  }

  pub pin_done : (k : ℕ) → k ≡ number_of (call s (pin v c x)) (bench_of r rest drape pins) → k ≡ 0
      → (said 0 ≡ answer_of (call s (pin v c x)) (bench_of r rest drape pins)) × (bench_of r rest drape (set pins (pin_part * s + (4 * v + c)) x) ≡ after_of (call s (pin v c x)) (bench_of r rest drape pins))
  unfolding case_of case_at put_all
  pin_done k e z = let q = call_done (call s (pin v c x)) (bench_of r rest drape pins) k e z in (q.0, sym (written (pin_accepted k e z)) ∙ q.1)
