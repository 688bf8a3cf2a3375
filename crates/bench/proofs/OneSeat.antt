-- A call on one seat goes by its strand alone, and leaves no other.
use mathlib.Core.Path.{◌≡◌, refl, sym, ap, ◌∙◌}
use mathlib.Core.Bool.{true, false, false≢true}
use mathlib.Core.List.{List, [], ◌∷◌}
use Prim.Native.Nat.{ℕ, ◌<◌}
use lib.Dec.{ltb}
use lib.Ieee.{Float}
use borrow.Author.Tests.{ltb-true, lt-ltb, eq-eqb, ne_eqb}
use Rattle.matrix.specs.System.{every}
use Rattle.matrix.proofs.Cases.{by_equality}
use Rattle.matrix.proofs.Every.{and_left}
use Rattle.bench.specs.Areas.{seats}
use Rattle.bench.specs.Strand.{Strand, Bench, strand_of}
use Rattle.bench.specs.Rows.{any, first, in_table}
use Rattle.bench.specs.Answers.{finite_answer}
use Rattle.bench.specs.Asks.{Request, of, Call, call_with, are_seats, Lent, lent_of, lends}
use Rattle.bench.specs.Requests.{case_at}
use Rattle.bench.specs.Calls.{seat_rows, case_of, done_of, number_of, answer_of, leaves_of}
use Rattle.bench.specs.PinStory.{events_of, Story, story}
use Rattle.bench.proofs.RowLaws.{first_alike}
use Rattle.bench.proofs.Entered.{answer_refused, leaves_refused, entered}
use Rattle.bench.proofs.SeatParts.{Good, good_record_lem, left_at, Sit, none}
use Rattle.bench.proofs.Tracking.{Tracks}
use Rattle.bench.proofs.Requests.{numbered, refusal_finite, Lawful, lawful}
use Rattle.bench.proofs.CallLaws.{on, Sound, Local, events_refused, lent_alike}

pub numbered_one : (s : ℕ) (a : Request) (l : Lent) (b : Bench) → every in_table (case_of (of s a) l b).rows ≡ true
unfolding case_of seat_rows every
numbered_one s a l b = numbered a (strand_of s b)

module _ (s : ℕ) (a : Request) (w : List Float) where
  abbrev this : Call
  this = call_with w s a

  -- an accepted one has a seat
  is_seat : (b : Bench) → number_of this b ≡ 0 → s < seats
  is_seat b e = (entered w s a b 0 (sym e) refl).seat

  at_seat : (b : Bench) → Good b → number_of this b ≡ 0 → Lawful s a (strand_of s b)
  at_seat b g e = let h = entered w s a b 0 (sym e) refl in lawful s h.seat a (strand_of s b) (g.fine s h.seat) h.rows

  names_own : s < seats → on s this ≡ true
  unfolding any every
  names_own h = rw (lt-ltb s seats h, eq-eqb s s refl)

  sit_of : (b : Bench) → Good b → Sit (leaves_of this b)
  unfolding done_of case_of
  sit_of b g = by_equality (number_of this b) 0 (λ e. rw e (at_seat b g e).sit) (λ n. rw (leaves_refused (number_of this b) (case_of (of s a) (lent_of this) b).leaves n) none)

  answer_of_lem : (b : Bench) → Good b → finite_answer (answer_of this b) ≡ true
  unfolding done_of case_of
  answer_of_lem b g = by_equality (number_of this b) 0 (λ e. rw e (at_seat b g e).answer) (λ n. rw (answer_refused (of s a) (number_of this b) (case_of (of s a) (lent_of this) b).answer n) (refusal_finite a (number_of this b)))

  alone_of : (b : Bench) → Good b → (t : ℕ) (y : Strand) → on t this ≡ false → left_at t (leaves_of this b) y ≡ y
  unfolding done_of case_of left_at
  alone_of b g t y k =
      by_equality (number_of this b) 0 (λ e. rw e ((at_seat b g e).alone t y (λ q. false≢true (sym k ∙ rw q (names_own (is_seat b e))))))
      (λ n. rw (leaves_refused (number_of this b) (case_of (of s a) (lent_of this) b).leaves n))

  -- ---- two benches that agree on the seat
  number_same : (u v : Bench) → Good u → Good v → (s < seats → strand_of s u ≡ strand_of s v) → number_of this u ≡ number_of this v
  unfolding done_of case_of seat_rows every
  number_same u v g h q =
      rw (lent_alike (lends a) (lent_of this) u v g.long h.long, good_record_lem u g, good_record_lem v h)
      (first_alike _ _ _ _ (λ k. ap (λ (y : Strand). first (case_at a y).rows) (q (ltb-true s seats (and_left (ltb s seats) true (and_left (are_seats (s ∷ [])) true k))))))

  alike_of : (u v : Bench) → Good u → Good v → ((t : ℕ) → t < seats → on t this ≡ true → strand_of t u ≡ strand_of t v) → (answer_of this u ≡ answer_of this v) × (leaves_of this u ≡ leaves_of this v)
  unfolding done_of case_of
  alike_of u v g h e =
      let q : s < seats → strand_of s u ≡ strand_of s v = λ m. e s m (names_own m) in
      let k = number_same u v g h q in
      by_equality (number_of this u) 0
      (λ z. let m = q (is_seat u z) in rw (z, sym k ∙ z, m) (refl, refl))
      (λ n. (
        answer_refused (of s a) (number_of this u) _ n ∙ rw k (sym (answer_refused (of s a) (number_of this v) _ (λ z. n (k ∙ z)))),
        leaves_refused (number_of this u) _ n ∙ sym (leaves_refused (number_of this v) _ (λ z. n (k ∙ z))),
      ))

  -- ---- what it tells of its seat is so
  tracks_of : (i j : ℕ) (t : Story) (b : Bench) → Good b → (r : ℕ) → Tracks i j t (strand_of r b) → Tracks i j (story i j t (events_of r this b)) (left_at r (leaves_of this b) (strand_of r b))
  unfolding story done_of case_of events_of left_at
  tracks_of i j t b g r q =
      by_equality (number_of this b) 0
      (λ e. rw e (by_equality r s (λ d. rw (d, eq-eqb s s refl) ((at_seat b g e).tracks i j t (rw d at q))) (λ d. rw (ne_eqb r s d, (at_seat b g e).alone r (strand_of r b) d) q)))
      (λ n. rw (leaves_refused (number_of this b) (case_of (of s a) (lent_of this) b).leaves n, events_refused (number_of this b) _ n) q)

  pub sound_of : Sound this
  sound_of = record { answer = answer_of_lem; sit = sit_of; tracks = λ i j t b g r h q. tracks_of i j t b g r q }

  pub local_of : Local this
  local_of = record { alone = alone_of; alike = alike_of }
