-- A step's call: what it is asked first decides whether its strand is stepped, and then the call comes to what the strand's step comes to.
-- A step changes nothing of its strand but the drape, so nothing of the bench but the seat's part of the drape.
use mathlib.Core.Path.{◌≡◌, refl, sym, ap, ◌∙◌}
use mathlib.Core.Bool.{true, false, not, false≢true}
use mathlib.Core.List.{List, [], ◌∷◌, ◌++◌}
use mathlib.Core.Logic.{◌≢◌}
use Prim.Native.Nat.{ℕ, zero, suc, ◌*◌, ◌≤◌, ◌<◌}
use lib.ListN.{length, get_or}
use lib.Seq.{set-get_or}
use lib.Ieee.{Float}
use borrow.Author.Tests.{eqb-false, not-true}
use Rattle.matrix.specs.Parts.{part, put}
use Rattle.matrix.specs.Area.{work_numbers}
use Rattle.matrix.specs.System.{every}
use Rattle.matrix.proofs.Parts.{put_part}
use Rattle.std.specs.declared.result.Result.{Result}
use Rattle.std.specs.Result.{IsErrAnd}
use Rattle.bench.specs.declared.answers.Pick.{Pick}
use Rattle.bench.specs.declared.answers.StepAnswer.{StepAnswer}
use Rattle.bench.specs.declared.answers.Numbers.{Numbers}
use Rattle.bench.specs.declared.answers.StepAnswer.TheVariants.{Accepted, Refused}
use Rattle.bench.specs.declared.refusal.Refusal.{Refusal}
use Rattle.bench.specs.Areas.{seats, rest_numbers, drape_numbers, pin_bytes, rest_part, drape_part, pin_part}
use Rattle.bench.specs.Strand.{Strand, Bench, with_drape, entry_of, strand_of, put_strand, left, put_all, bench_of, no_settings}
use Rattle.bench.specs.Given.{is_empty}
use Rattle.bench.specs.Rows.{Row, any, first, leaves_work, LeavesWork, in_table}
use Rattle.bench.specs.Answers.{reported, step_numbers, numbers_told}
use Rattle.bench.specs.Refusals.{refusal_number, refusal_of, answered}
use Rattle.bench.specs.Step.{Time, pick_fits, begin_rows, finish_rows, Update, update_of, report_by, step_answer, drape_by, step_drape}
use Rattle.bench.specs.Asks.{step, of, Call, call_with, lends, lent_of}
use Rattle.bench.specs.Requests.{asked_rows, case_at}
use Rattle.bench.specs.Calls.{lent_long, seat_rows, case_of, answer_by, leaves_by, done_of, number_of, answer_of, after_of}
use Rattle.bench.proofs.RowLaws.{demands_of, first_such, holds, first_before, first_behind}
use Rattle.bench.proofs.Refusals.{number_not_0, reason_of_number, answered_on}
use Rattle.bench.proofs.EntryRows.{entry_passed}
use Rattle.bench.proofs.GoodSeats.{taken_seat}
use Rattle.bench.proofs.Entered.{answer_refused, leaves_refused, areas}

-- ---- a step's rows leave the work area free
free_rows : (t : Strand) (p : Pick) (d : Time) → every (λ (r : Row). not (leaves_work r.number)) (update_of t p d).rows ≡ true
unfolding update_of begin_rows finish_rows every any
free_rows t p d = refl

free_number : (t : Strand) (p : Pick) (d : Time) → leaves_work (first (update_of t p d).rows) ≡ false
unfolding any
free_number t p d = not-true (leaves_work (first (update_of t p d).rows)) (first_such (λ k. not (leaves_work k)) refl (update_of t p d).rows (free_rows t p d))

-- ---- what the strand's step answers and leaves, by its number
answer_by_lem : (s : ℕ) (p : Pick) (d : Time) (n : ℕ) (u : Update) → answer_by (of s (step p d)) n (reported (Accepted u.energy u.ratio u.count)) ≡ reported (report_by n u.energy u.ratio u.count)
answer_by_lem s p d zero u = refl
answer_by_lem s p d (suc n) u = refl

left_by : (s : ℕ) (b : Bench) (x : List Float) (n : ℕ)
    → bench_of b.seats b.rest (put b.drape (drape_part * s) (drape_by n (part b.drape (drape_part * s) drape_part) x)) b.pins ≡ put_all (leaves_by n (left s (with_drape (strand_of s b) x) ∷ [])) b
unfolding put_all put_strand strand_of
left_by s b x zero = λ i. record {
  seats = record { counts = sym (set-get_or b.seats.counts s 0) i; settings = sym (set-get_or b.seats.settings s no_settings) i };
  rest = sym (put_part b.rest (rest_part * s) rest_part) i;
  drape = put b.drape (drape_part * s) x;
  pins = sym (put_part b.pins (pin_part * s) pin_part) i;
}
left_by s b x (suc n) = ap (λ (l : List Float). bench_of b.seats b.rest l b.pins) (put_part b.drape (drape_part * s) drape_part)

module _ (w : List Float) (s : ℕ) (p : Pick) (d : Time) (b : Bench) where
  abbrev this : Call
  this = call_with w s (step p d)

  abbrev u : Update
  u = update_of (strand_of s b) p d

  abbrev asked : List Row
  asked = seat_rows (lent_long (lends (step p d)) (lent_of this) b) (s ∷ []) b.seats ++ asked_rows (strand_of s b) p d

  asked_numbered : every in_table asked ≡ true
  unfolding seat_rows every
  asked_numbered = refl

  number_is : number_of this b ≡ first (asked ++ u.rows)
  unfolding done_of case_of case_at seat_rows strand_of
  number_is = refl

  -- ---- what both kinds of step promise: r is the answer, x the drape after it, v and y the work area before and after it
  abbrev Promised : (r : StepAnswer) (x v y : List Float) → Type 0
  Promised r x v y = (reported r ≡ answer_of this b) × ((step_numbers r ≡ numbers_told (answer_of this b)) × ((bench_of b.seats b.rest x b.pins ≡ after_of this b) × LeavesWork (number_of this b) v y))

  promised : (r : StepAnswer) (x v y : List Float) → reported r ≡ answer_of this b → bench_of b.seats b.rest x b.pins ≡ after_of this b → LeavesWork (number_of this b) v y → Promised r x v y
  unfolding numbers_told
  promised r x v y e f g = (e, (ap numbers_told e, (f, g)))

  -- ---- refused before its strand is looked at, for the reason r
  refused_with : (r : Refusal) → refusal_number r ≡ first asked → (v : List Float) → Promised (Refused r) b.drape v v
  unfolding done_of put_all
  refused_with r e v =
      let q : number_of this b ≡ refusal_number r = number_is ∙ first_before asked u.rows (λ z. number_not_0 r (e ∙ z)) ∙ sym e in
      let n : number_of this b ≢ 0 = λ z. number_not_0 r (sym q ∙ z) in
      promised (Refused r) b.drape v v
      (sym (answer_refused (of s (step p d)) (number_of this b) _ n ∙ ap (λ (j : ℕ). reported (Refused (refusal_of j))) q ∙ ap (λ (x : Refusal). reported (Refused x)) (reason_of_number r)))
      (rw (leaves_refused (number_of this b) (case_of (of s (step p d)) (lent_of this) b).leaves n))
      (λ _. refl)

  pub step_refused : (o : Result Numbers Refusal) (r : Refusal) → IsErrAnd o (λ x. x ≡ r) → refusal_number r ≡ first asked → (v : List Float) → Promised (answered o) b.drape v v
  step_refused o r h e v = rw (answered_on o r h) (refused_with r e v)

  -- ---- its strand is stepped
  pub step_done : first asked ≡ 0 → (r : StepAnswer) (x v y : List Float) → r ≡ step_answer u → x ≡ put b.drape (drape_part * s) (step_drape (part b.drape (drape_part * s) drape_part) u) → Promised r x v y
  unfolding done_of case_of case_at
  step_done e r x v y f g =
      let q : number_of this b ≡ first u.rows = number_is ∙ first_behind asked u.rows asked_numbered e in
      let ls = left s (with_drape (strand_of s b) u.drape) ∷ [] in
      let l : bench_of b.seats b.rest x b.pins ≡ put_all (leaves_by (first u.rows) ls) b = rw g (left_by s b u.drape (first u.rows)) in
      promised r x v y
      (ap reported f ∙ sym (answer_by_lem s p d (first u.rows) u) ∙ rw q)
      (l ∙ ap (λ (j : ℕ). put_all (leaves_by j ls) b) (sym q))
      (λ z. absurd (false≢true (sym (free_number (strand_of s b) p d) ∙ (rw q at z))))

  -- ---- and then all is as the strand's step wants it
  pub record Steps : Type 0 where
    pub rest : length b.rest ≡ rest_numbers
    pub drape : length b.drape ≡ drape_numbers
    pub pins : length b.pins ≡ pin_bytes
    pub work : length w ≡ work_numbers
    pub seat : s < seats
    pub count : (2 ≤ get_or b.seats.counts s 0) × (get_or b.seats.counts s 0 ≤ 32)
    pub pick : pick_fits (get_or b.seats.counts s 0) p ≡ true

  pub steps : first asked ≡ 0 → Steps
  unfolding seat_rows demands_of lent_of every strand_of
  steps e =
      let at = holds asked asked_numbered e in
      let n = get_or b.seats.counts s 0 in
      let q = entry_passed _ s b.seats (asked_rows (strand_of s b) p d) e in
      let h = areas (lends (step p d)) (lent_of this) b q.lengths in
      let c = taken_seat (entry_of s b.seats) q.good (eqb-false n 0 (not-true (is_empty n) (at 3 0))) in
      record { rest = h.rest refl; drape = h.drape refl; pins = h.pins refl; work = h.work refl; seat = q.seat; count = (c.least, c.most); pick = at 5 0 }
