-- The rows of load as its code tests them, and what holds of the lists where they are taken: they have their lengths.
use mathlib.Core.Path.{◌≡◌, refl}
use mathlib.Core.Bool.{true, false, not, cond, ◌&&◌}
use mathlib.Core.List.{List, [], ◌∷◌, ◌++◌}
use mathlib.Core.Logic.{◌↔◌}
use Prim.Native.Nat.{ℕ, ◌*◌, ◌≤◌}
use native.Mathlib.Omega.{arith}
use lib.Dec.{eqb}
use lib.ListN.{length, get_or}
use lib.Ieee.{Float}
use borrow.Author.Tests.{eqb-true, le-leb}
use Rattle.std.specs.declared.option.Option.{Option}
use Rattle.std.specs.declared.option.Option.TheVariants.{None, Some}
use Rattle.std.specs.Option.{IsSome}
use Rattle.vectors.specs.Finite.{is_finite}
use Rattle.matrix.specs.declared.vertices.Vertices.{Vertices}
use Rattle.matrix.specs.Rows.{rows3}
use Rattle.matrix.specs.System.{every}
use Rattle.matrix.proofs.Cases.{by_test}
use Rattle.bench.specs.declared.seats.Record.{Record}
use Rattle.bench.specs.Areas.{rest_numbers, drape_numbers, pin_bytes}
use Rattle.bench.specs.Strand.{strand_of, bench_of}
use Rattle.bench.specs.Given.{good_count, good_settings, edges_fit}
use Rattle.bench.specs.Rows.{all, first}
use Rattle.bench.specs.Asks.{Load, load, call}
use Rattle.bench.specs.Requests.{vacant, case_at}
use Rattle.bench.specs.Calls.{rest_long, drape_long, pins_long, lent_long, seat_rows, case_of, done_of, number_of}
use Rattle.bench.proofs.RowLaws.{held_at}
use Rattle.bench.proofs.EntryRows.{all_three, test_one, test_three, no_test, entry_then}
use Rattle.bench.proofs.GoodSeats.{Between, between}

-- ---- what 4 asks of a load
pub record Sized (g : Load) : Type 0 where
  pub count : Between g.count
  pub positions : length g.positions ≡ 3 * g.count
  pub frames : length g.frames ≡ 3 * g.count

pub sized : (g : Load) → all (good_count g.count ∷ eqb (length g.positions) (3 * g.count) ∷ eqb (length g.frames) (3 * g.count) ∷ []) ≡ true → Sized g
sized g h = record { count = between g.count (held_at _ 0 h); positions = eqb-true _ _ (held_at _ 1 h); frames = eqb-true _ _ (held_at _ 2 h) }

-- ---- the count alone: that of vertices is good, and of one that is not there are none
pub counted : (v : Vertices) (n : ℕ) → v.count ≡ n → good_count n ≡ true
counted v n e = rw (le-leb 2 n (omega (arith, e, v.in_range.0)), le-leb n 32 (omega (arith, e, v.in_range.1)))

pub not_counted : (o : Option Vertices) (n : ℕ) → IsSome o ↔ ((2 ≤ n) × (n ≤ 32)) → o ≡ None → good_count n ≡ false
not_counted None n v e = by_test (good_count n) (λ t. let b = between n t in absurd (cc (v.1 (b.least, b.most)))) (λ f. f)
not_counted (Some x) n v e = absurd (cc e)

module _ (r : Record) (rest drape : List Float) (pins : List ℕ) (s : ℕ) (g : Load) where
  pub load_tests : (k : ℕ) → k ≡ first (seat_rows (eqb (length rest) rest_numbers && eqb (length drape) drape_numbers && eqb (length pins) pin_bytes) (s ∷ []) r ++ (vacant (get_or r.counts s 0) ∷ []))
      → number_of (call s (load g)) (bench_of r rest drape pins)
      ≡ cond (eqb k 0)
      (cond (not (good_count g.count && eqb (length g.positions) (3 * g.count) && eqb (length g.frames) (3 * g.count))) 4
      (cond (not (every is_finite g.positions && every is_finite g.frames && good_settings g.settings)) 6
      (cond (not (edges_fit g.count (rows3 g.positions 0 g.count))) 7 0)))
      k
  unfolding done_of case_of case_at strand_of lent_long every
  load_tests k e =
      let b = bench_of r rest drape pins in
      entry_then _ s r _ (all_three (rest_long b) (drape_long b) (pins_long b)) _ refl _ _ (test_three 4 _ _ _ _ _ (test_three 6 _ _ _ _ _ (test_one 7 _ _ _ no_test))) k e
