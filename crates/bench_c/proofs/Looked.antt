-- The place of a look for C is the bench's, without the area, which the kind chooses; a refused look has none.
use mathlib.Core.Path.{◌≡◌, refl, sym, ap, ◌∙◌}
use mathlib.Core.Bool.{Bool, true, false, cond}
use mathlib.Core.List.{List}
use mathlib.Core.Logic.{◌≢◌}
use Prim.Native.Nat.{ℕ, zero, suc}
use lib.Dec.{ltb}
use lib.ListN.{get_or}
use lib.Ieee.{Float}
use Rattle.std.specs.declared.result.Result.{Result}
use Rattle.std.specs.declared.result.Result.TheVariants.{Ok, Err}
use Rattle.std.specs.Result.{MatchResult, IfOk}
use Rattle.matrix.specs.Parts.{part}
use Rattle.bench.specs.declared.refusal.Refusal.{Refusal}
use Rattle.bench.specs.declared.seats.Record.{Record}
use Rattle.bench.specs.declared.look.Area.TheVariants.{Rest, Drape}
use Rattle.bench.specs.declared.look.Place as shown
use Rattle.bench.specs.Strand.{bench_of}
use Rattle.bench.specs.Answers.{handed}
use Rattle.bench.specs.Asks.{look, call}
use Rattle.bench.specs.Calls.{number_of, answer_of}
use Rattle.bench.specs.Looks.{numbers_in, place_on}
use Rattle.bench.specs.Refusals.{told}
use Rattle.bench.proofs.Refusals.{number_not_0}
use Rattle.bench.proofs.Entered.{call_declined}
use Rattle.bench_c.specs.declared.Place.{Place}
use Rattle.bench_c.specs.Exported.{looked_at, placed, place_by, place_of}

abbrev pub nowhere : Place
nowhere = record { at = 0; count = 0 }

none : (k s kind n : ℕ) → k ≢ 0 → nowhere ≡ place_by k s kind n
none zero s kind n h = absurd (h refl)
none (suc k) s kind n h = refl

numbers_chosen : (t : Bool) (rest drape : List Float) → numbers_in (cond t Rest Drape) rest drape ≡ cond t rest drape
numbers_chosen true rest drape = refl
numbers_chosen false rest drape = refl

module _ (r : Record) (rest drape : List Float) (s kind : ℕ) (pins : List ℕ) where
  abbrev n : ℕ
  n = get_or r.counts s 0

  -- q is the place of the look
  pub record Placed (q : Place) : Type 0 where
    pub is : q ≡ place_of s kind (bench_of r rest drape pins)
    pub shows : handed (part (looked_at kind rest drape) q.at q.count) ≡ answer_of (call s (look kind)) (bench_of r rest drape pins)

  refused : (k : ℕ) → k ≡ number_of (call s (look kind)) (bench_of r rest drape pins) → k ≢ 0 → Placed nowhere
  unfolding part
  refused k e h = record {
    is = none k s kind n h ∙ ap (λ (j : ℕ). place_by j s kind n) e;
    shows = (call_declined (call s (look kind)) (bench_of r rest drape pins) k e h).0;
  }

  found : (q : shown.Place) → 0 ≡ number_of (call s (look kind)) (bench_of r rest drape pins) → q ≡ place_on s kind n
      → handed (part (numbers_in q.area rest drape) q.at q.count) ≡ answer_of (call s (look kind)) (bench_of r rest drape pins) → Placed (placed q)
  found q z e h = record {
    is = ap placed e ∙ ap (λ (j : ℕ). place_by j s kind n) z;
    shows = ap (λ (l : List Float). handed (part l q.at q.count)) (sym (ap (λ (p : shown.Place). numbers_in p.area rest drape) e ∙ numbers_chosen (ltb kind 2) rest drape)) ∙ h;
  }

  -- what the bench answers, as it crosses to C
  pub crossed : (o : Result shown.Place Refusal) (q : Place) → MatchResult o (λ p. q ≡ placed p) (λ r. q ≡ nowhere)
      → told o ≡ number_of (call s (look kind)) (bench_of r rest drape pins) → IfOk o (λ p. p ≡ place_on s kind n)
      → IfOk o (λ p. handed (part (numbers_in p.area rest drape) p.at p.count) ≡ answer_of (call s (look kind)) (bench_of r rest drape pins)) → Placed q
  unfolding told
  crossed (Ok p) q m t e h = rw m (found p t e h)
  crossed (Err k) q m t e h = rw m (refused _ t (number_not_0 k))
