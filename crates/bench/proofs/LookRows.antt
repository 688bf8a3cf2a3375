-- The rows of look and its companion as the code tests them. Neither leaves a strand, so the bench stays, refused or not; what a look hands back lies within the areas.
use mathlib.Core.Path.{◌≡◌, refl, sym, ap, ◌∙◌}
use mathlib.Core.Bool.{cond, ◌&&◌}
use mathlib.Core.List.{List, [], ◌∷◌, ◌++◌}
use Prim.Native.Nat.{ℕ, zero, suc, ◌+◌, ◌-◌, ◌*◌, ◌≤◌, ◌<◌}
use native.Mathlib.Omega.{arith}
use lib.Dec.{eqb, leb}
use lib.ListN.{length, get_or}
use lib.Ieee.{Float, nan}
use borrow.Author.Tests.{ltb-true, lt-ltb, le-ltb}
use Rattle.matrix.specs.Parts.{part}
use Rattle.matrix.specs.System.{every}
use Rattle.matrix.proofs.Cases.{by_order}
use Rattle.matrix.proofs.Parts.{part_part}
use Rattle.bench.specs.declared.look.Place.{Place}
use Rattle.bench.specs.declared.seats.Record.{Record}
use Rattle.bench.specs.Areas.{seats, rest_numbers, drape_numbers, rest_part, drape_part, vector_part}
use Rattle.bench.specs.Strand.{Bench, Left, strand_of, put_all, bench_of}
use Rattle.bench.specs.Rows.{first}
use Rattle.bench.specs.Answers.{handed}
use Rattle.bench.specs.Asks.{look, companion, Call, call, lent_of}
use Rattle.bench.specs.Requests.{shown_of, taken, case_at}
use Rattle.bench.specs.Calls.{rest_long, drape_long, lent_long, seat_rows, case_of, leaves_by, done_of, number_of, answer_of, after_of}
use Rattle.bench.specs.Looks.{numbers_in, place_on}
use Rattle.bench.proofs.RowLaws.{demands_of, holds}
use Rattle.bench.proofs.EntryRows.{all_two, test_one, no_test, not_below, entry_then}
use Rattle.bench.proofs.Entered.{entered, call_done}

-- ---- the bench after it
no_leaves : (k : ℕ) (l : List Left) → l ≡ [] → [] ≡ leaves_by k l
no_leaves zero l e = sym e
no_leaves (suc k) l e = refl

keeps : (c : Call) (b : Bench) → (case_of c.asks (lent_of c) b).leaves ≡ [] → b ≡ after_of c b
unfolding done_of put_all
keeps c b e = ap (λ (l : List Left). put_all l b) (no_leaves (number_of c b) (case_of c.asks (lent_of c) b).leaves e)

pub look_keeps : (s kind : ℕ) (b : Bench) → b ≡ after_of (call s (look kind)) b
unfolding case_of case_at
look_keeps s kind b = keeps (call s (look kind)) b refl

pub companion_keeps : (s kind : ℕ) (b : Bench) → b ≡ after_of (call s (companion kind)) b
unfolding case_of case_at
companion_keeps s kind b = keeps (call s (companion kind)) b refl

module _ (r : Record) (rest drape : List Float) (pins : List ℕ) (s kind : ℕ) where
  abbrev n : ℕ
  n = get_or r.counts s 0

  pub look_tests : (k : ℕ) → k ≡ first (seat_rows (eqb (length rest) rest_numbers && eqb (length drape) drape_numbers) (s ∷ []) r ++ (taken n ∷ []))
      → number_of (call s (look kind)) (bench_of r rest drape pins) ≡ cond (eqb k 0) (cond (leb 5 kind) 5 0) k
  unfolding done_of case_of case_at strand_of lent_long every
  look_tests k e = let b = bench_of r rest drape pins in rw (← not_below kind 5) (entry_then _ s r _ (all_two (rest_long b) (drape_long b)) _ refl _ _ (test_one 5 _ _ _ no_test) k e)

  -- ---- what is handed back
  pub record Looks : Type 0 where
    pub rest_long : length rest ≡ rest_numbers
    pub drape_long : length drape ≡ drape_numbers
    pub seat : s < seats
    pub count : n ≤ 32
    pub below : kind < 5
    pub is : handed (shown_of kind (strand_of s (bench_of r rest drape pins))) ≡ answer_of (call s (look kind)) (bench_of r rest drape pins)

  pub looks : (k : ℕ) → k ≡ number_of (call s (look kind)) (bench_of r rest drape pins) → k ≡ 0 → Looks
  unfolding case_of case_at demands_of every
  looks k e z =
      let b = bench_of r rest drape pins in
      let h = entered [] s (look kind) b k e z in
      record {
        rest_long = h.areas.rest refl;
        drape_long = h.areas.drape refl;
        seat = h.seat;
        count = h.small;
        below = ltb-true kind 5 (holds _ refl h.rows 5 0);
        is = (call_done (call s (look kind)) b k e z).0;
      }

  -- a kind below 2 is of the rest, another of the drape
  shown_rest : Looks → kind < 2 → part rest (rest_part * s + vector_part * kind) (3 * n) ≡ shown_of kind (strand_of s (bench_of r rest drape pins))
  unfolding shown_of strand_of
  shown_rest p h = sym (rw (lt-ltb kind 2 h) (part_part nan rest (rest_part * s) rest_part (vector_part * kind) (3 * n) _ refl (omega (arith, p.count)) (omega (arith, p.rest_long, p.seat))))

  shown_drape : Looks → 2 ≤ kind → part drape (drape_part * s + vector_part * (kind - 2)) (3 * n) ≡ shown_of kind (strand_of s (bench_of r rest drape pins))
  unfolding shown_of strand_of
  shown_drape p h = sym (rw (le-ltb kind 2 h) (part_part nan drape (drape_part * s) drape_part (vector_part * (kind - 2)) (3 * n) _ refl (omega (arith, p.count, p.below)) (omega (arith, p.drape_long, p.seat))))

  -- q is where it stands
  module _ (q : Place) (e : q ≡ place_on s kind n) where
    pub place_shows : Looks → handed (part (numbers_in q.area rest drape) q.at q.count) ≡ answer_of (call s (look kind)) (bench_of r rest drape pins)
    place_shows p = rw e (by_order kind 2 (λ h. rw (lt-ltb kind 2 h) (ap handed (shown_rest p h) ∙ p.is)) (λ h. rw (le-ltb kind 2 h) (ap handed (shown_drape p h) ∙ p.is)))

    pub place_fits : Looks → q.at + q.count ≤ length (numbers_in q.area rest drape)
    place_fits p = rw e (by_order kind 2 (λ h. rw (lt-ltb kind 2 h) (omega (arith, p.rest_long, p.seat, p.count))) (λ h. rw (le-ltb kind 2 h) (omega (arith, p.drape_long, p.seat, p.count, p.below))))
