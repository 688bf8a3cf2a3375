-- What every call has in common: a refused one answers its number and leaves the bench, and an accepted one does what its case says.
-- A call on a seat that is accepted has passed refusals 1 and 2, so the areas that it is lent have their lengths and its seat is a good one; the rows of its own request are passed, too.
use mathlib.Core.Path.{◌≡◌, refl, sym, ap, ◌∙◌}
use mathlib.Core.Bool.{Bool, true, false, not, ◌||◌, false≢true}
use mathlib.Core.List.{List, [], ◌∷◌}
use mathlib.Core.Logic.{◌≢◌}
use Prim.Native.Nat.{ℕ, zero, suc, ◌≤◌, ◌<◌}
use lib.Dec.{eqb}
use lib.ListN.{length, get_or}
use lib.Ieee.{Float}
use borrow.Author.Tests.{eqb-true}
use Rattle.std.specs.declared.result.Result.{Result}
use Rattle.std.specs.Result.{IsErrAnd}
use Rattle.matrix.specs.Area.{work_numbers}
use Rattle.matrix.specs.System.{every}
use Rattle.bench.specs.declared.refusal.Refusal.{Refusal}
use Rattle.bench.specs.Areas.{seats, rest_numbers, drape_numbers, pin_bytes}
use Rattle.bench.specs.Strand.{Bench, no_settings, strand_of, Left, put_all, entry_of}
use Rattle.bench.specs.Given.{good_settings}
use Rattle.bench.specs.Rows.{first}
use Rattle.bench.specs.Answers.{Answer}
use Rattle.bench.specs.Refusals.{refusal_number, told}
use Rattle.bench.specs.Asks.{Request, Asks, Call, call_with, Lends, lends, Lent, lent_of}
use Rattle.bench.specs.Requests.{case_at}
use Rattle.bench.specs.Calls.{rest_long, drape_long, pins_long, lent_long, seat_rows, case_of, refusal, answer_by, leaves_by, done_of, number_of, answer_of, after_of}
use Rattle.bench.proofs.Refusals.{number_not_0, told_on}
use Rattle.bench.proofs.RowLaws.{held_at, second_none}
use Rattle.bench.proofs.EntryRows.{entry_passed}
use Rattle.bench.proofs.GoodSeats.{Between, taken_seat, taken_settings, small_seat}

-- ---- every call
pub answer_refused : (a : Asks) (k : ℕ) (r : Answer) → k ≢ 0 → answer_by a k r ≡ refusal a k
answer_refused a zero r n = absurd (n refl)
answer_refused a (suc k) r n = refl

pub leaves_refused : (k : ℕ) (ls : List Left) → k ≢ 0 → leaves_by k ls ≡ []
leaves_refused zero ls n = absurd (n refl)
leaves_refused (suc k) ls n = refl

module _ (c : Call) (b : Bench) where
  pub call_declined : (k : ℕ) → k ≡ number_of c b → k ≢ 0 → (refusal c.asks k ≡ answer_of c b) × (b ≡ after_of c b)
  unfolding done_of put_all
  call_declined k e n =
      let d = case_of c.asks (lent_of c) b in
      let m : number_of c b ≢ 0 = λ z. n (e ∙ z) in
      (ap (refusal c.asks) e ∙ sym (answer_refused c.asks (number_of c b) d.answer m), sym (ap (λ (l : List Left). put_all l b) (leaves_refused (number_of c b) d.leaves m)))

  -- refused for the reason r
  pub call_refused : {A : Type 0} (o : Result A Refusal) (r : Refusal) → IsErrAnd o (λ x. x ≡ r) → refusal_number r ≡ number_of c b → (refusal c.asks (told o) ≡ answer_of c b) × (b ≡ after_of c b)
  call_refused o r h e = let q = call_declined (refusal_number r) e (number_not_0 r) in (ap (refusal c.asks) (told_on o r h) ∙ q.0, q.1)

  pub call_done : (k : ℕ) → k ≡ number_of c b → k ≡ 0 → ((case_of c.asks (lent_of c) b).answer ≡ answer_of c b) × (put_all (case_of c.asks (lent_of c) b).leaves b ≡ after_of c b)
  unfolding done_of
  call_done k e z =
      let d = case_of c.asks (lent_of c) b in
      let h = sym e ∙ z in
      (sym (ap (λ (n : ℕ). answer_by c.asks n d.answer) h), sym (ap (λ (n : ℕ). put_all (leaves_by n d.leaves) b) h))

-- ---- the areas that are lent
asked_of : (e l : Bool) → (not e || l) ≡ true → e ≡ true → l ≡ true
asked_of true l h q = h
asked_of false l h q = absurd (false≢true q)

module _ (e : Lends) (l : Lent) (b : Bench) where
  pub record Areas : Type 0 where
    pub rest : e.rest ≡ true → length b.rest ≡ rest_numbers
    pub drape : e.drape ≡ true → length b.drape ≡ drape_numbers
    pub pins : e.pins ≡ true → length b.pins ≡ pin_bytes
    pub work : e.work ≡ true → l.work_length ≡ work_numbers

  pub areas : lent_long e l b ≡ true → Areas
  unfolding lent_long
  areas h =
      let at : (i : ℕ) → get_or ((not e.rest || rest_long b) ∷ (not e.drape || drape_long b) ∷ (not e.pins || pins_long b) ∷ (not e.work || eqb l.work_length work_numbers) ∷ []) i true ≡ true = λ i. held_at _ i h in
      record {
        rest = λ q. eqb-true _ _ (asked_of e.rest (rest_long b) (at 0) q);
        drape = λ q. eqb-true _ _ (asked_of e.drape (drape_long b) (at 1) q);
        pins = λ q. eqb-true _ _ (asked_of e.pins (pins_long b) (at 2) q);
        work = λ q. eqb-true _ _ (asked_of e.work (eqb l.work_length work_numbers) (at 3) q);
      }

-- ---- a call on a seat
module _ (w : List Float) (s : ℕ) (a : Request) (b : Bench) where
  pub record Entered : Type 0 where
    pub areas : Areas (lends a) (lent_of (call_with w s a)) b
    pub seat : s < seats
    pub small : get_or b.seats.counts s 0 ≤ 32
    pub taken : get_or b.seats.counts s 0 ≢ 0 → Between (get_or b.seats.counts s 0)
    pub settings : get_or b.seats.counts s 0 ≢ 0 → good_settings (get_or b.seats.settings s no_settings) ≡ true
    pub rows : first (case_at a (strand_of s b)).rows ≡ 0

  pub entered : (k : ℕ) → k ≡ number_of (call_with w s a) b → k ≡ 0 → Entered
  unfolding done_of case_of seat_rows every
  entered k e q =
      let h = sym e ∙ q in
      let ps = seat_rows (lent_long (lends a) (lent_of (call_with w s a)) b) (s ∷ []) b.seats in
      let rs = (case_at a (strand_of s b)).rows in
      let p = entry_passed _ s b.seats rs h in
      record {
        areas = areas (lends a) _ b p.lengths;
        seat = p.seat;
        small = small_seat (entry_of s b.seats) p.good;
        taken = taken_seat (entry_of s b.seats) p.good;
        settings = taken_settings (entry_of s b.seats) p.good;
        rows = second_none ps rs refl h;
      }
