-- The laws of every call: what it is refused with, that it leaves a good bench good, and which strands it leaves.
use mathlib.Core.Path.{◌≡◌, refl}
use mathlib.Core.Bool.{true}
use mathlib.Core.List.{List}
use Prim.Native.Nat.{ℕ, zero, suc, ◌≤◌, ◌<◌}
use native.Mathlib.Omega.{arith}
use lib.Dec.{leb}
use lib.Ieee.{Float}
use borrow.Author.Tests.{leb-true}
use Rattle.matrix.specs.System.{every}
use Rattle.matrix.proofs.Every.{and_right}
use Rattle.bench.specs.Areas.{seats}
use Rattle.bench.specs.Strand.{Bench, strand_of, put_all}
use Rattle.bench.specs.Rows.{Row, first, last_number, in_table}
use Rattle.bench.specs.Answers.{said, finite_answer, Tells}
use Rattle.bench.specs.Asks.{look, companion, Asks, of, Call, call, Lent, lent_of}
use Rattle.bench.specs.Requests.{case_at}
use Rattle.bench.specs.Calls.{case_of, answer_by, done_of, number_of, answer_of, leaves_of, after_of}
use Rattle.bench.specs.PinStory.{events_of, Story, story}
use Rattle.bench.specs.Isolation.{EveryCallAnswers, CompanionTells}
use Rattle.bench.proofs.EveryNumber.{every_weaken}
use Rattle.bench.proofs.RowLaws.{first_such}
use Rattle.bench.proofs.Entered.{answer_refused, leaves_refused}
use Rattle.bench.proofs.SeatParts.{Good, good_all, strand_all, left_at}
use Rattle.bench.proofs.Tracking.{Tracks}
use Rattle.bench.proofs.Requests.{refusal_tells, answer_tells}
use Rattle.bench.proofs.CallLaws.{Sound}
use Rattle.bench.proofs.OneSeat.{numbered_one, sound_of}

numbered_of : (a : Asks) (l : Lent) (b : Bench) → every in_table (case_of a l b).rows ≡ true
numbered_of (of s a) l b = numbered_one s a l b

in_table_lem : (rs : List Row) → every in_table rs ≡ true → every (λ (r : Row). leb r.number last_number) rs ≡ true
in_table_lem rs h = every_weaken (λ (r : Row). leb r.number last_number) in_table (λ r e. and_right (leb 1 r.number) (leb r.number last_number) e) rs h

number_most : (c : Call) (b : Bench) → number_of c b ≤ last_number
unfolding done_of
number_most c b = leb-true (number_of c b) last_number (first_such (λ k. leb k last_number) refl (case_of c.asks (lent_of c) b).rows (in_table_lem (case_of c.asks (lent_of c) b).rows (numbered_of c.asks (lent_of c) b)))

tells_by : (a : Asks) (l : Lent) (b : Bench) (n : ℕ) → n ≤ last_number → Tells (answer_by a n (case_of a l b).answer) n
unfolding case_of
tells_by (of s a) l b zero m = answer_tells a (strand_of s b)
tells_by (of s a) l b (suc n) m = refusal_tells a (suc n) (omega arith) m

pub every_call_answers : EveryCallAnswers
unfolding done_of put_all
every_call_answers c b = record {
  rows = numbered_of c.asks (lent_of c) b;
  bound = number_most c b;
  accepted = λ e. rw e;
  declined = λ n. answer_refused c.asks (number_of c b) (case_of c.asks (lent_of c) b).answer n;
  unchanged = λ n. rw (leaves_refused (number_of c b) (case_of c.asks (lent_of c) b).leaves n);
  tells = tells_by c.asks (lent_of c) b (number_of c b) (number_most c b);
}

-- a look and its companion have the same rows
said_by : (s kind n : ℕ) → answer_by (of s (companion kind)) n (said 0) ≡ said n
said_by s kind zero = refl
said_by s kind (suc n) = refl

pub companion_tells : CompanionTells
unfolding done_of case_of case_at lent_of
companion_tells s kind b = said_by s kind (first (case_of (of s (look kind)) (lent_of (call s (look kind))) b).rows)

sound_by : (a : Asks) (w : List Float) → Sound (record { asks = a; work = w })
sound_by (of s a) w = sound_of s a w

sound : (c : Call) → Sound c
sound c = sound_by c.asks c.work

pub finite_answer_lem : (c : Call) (b : Bench) → Good b → finite_answer (answer_of c b) ≡ true
finite_answer_lem c b g = (sound c).answer b g

pub good_after : (c : Call) (b : Bench) → Good b → Good (after_of c b)
good_after c b g = good_all b g ((sound c).sit b g)

pub strand_after : (c : Call) (b : Bench) → Good b → (t : ℕ) → t < seats → strand_of t (after_of c b) ≡ left_at t (leaves_of c b) (strand_of t b)
strand_after c b g t h = strand_all b g ((sound c).sit b g) t h

pub tracks_call : (c : Call) (i j : ℕ) (t : Story) (b : Bench) → Good b → (r : ℕ) → r < seats → Tracks i j t (strand_of r b) → Tracks i j (story i j t (events_of r c b)) (strand_of r (after_of c b))
tracks_call c i j t b g r h q = rw (strand_after c b g r h) ((sound c).tracks i j t b g r h q)
