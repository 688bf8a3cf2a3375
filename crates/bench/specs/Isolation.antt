-- No seat's strand can touch another's.
--
-- Take any list of calls, cs, made one after the other from the new bench, and any seat s. Its solo run, `solo (kept_by (eqb s)) cs`, has only the calls that name s. Let ds be the same calls as the
-- solo run, with work areas of the same lengths, but with anything at all in them. Then
--
--     what the whole list answers to the seat's calls   =  what ds answers              same_answers
--     the seat's strand after the whole list            =  the seat's strand after ds   same_strand
--
-- Every number in these answers and of this strand is finite, so that both equations of values are equations of bits. And every position component that was pinned at every step since its load is where the load put it.
--
-- Calls says what one call does, Runs what lists of calls answer and leave, PinStory what "pinned at every step since its load" means.
use Rattle.std.specs.Prelude.{◌≡◌, true, List, ◌≢◌, ℕ, ◌≤◌, ◌<◌, eqb}
use Rattle.vectors.specs.Finite.{is_finite}
use Rattle.matrix.specs.System.{every}
use Rattle.bench.specs.Areas.{seats}
use Rattle.bench.specs.Strand.{Strand, Bench, new_bench, setting_numbers, strand_of}
use Rattle.bench.specs.Rows.{last_number, in_table}
use Rattle.bench.specs.Answers.{said, finite_answer, Tells}
use Rattle.bench.specs.Asks.{look, companion, Call, call, lent_of}
use Rattle.bench.specs.Calls.{case_of, refusal, number_of, answer_of, after_of}
use Rattle.bench.specs.Runs.{answers, after, kept_by, solo, answers_to, Same, SameCalls}
use Rattle.bench.specs.PinStory.{history, position, empty, story, StaysIfPinned}

-- Every number of the strand is finite; the working copy is in the drape.
pub record Finite (x : Strand) : Type 0 where
  pub settings : every is_finite (setting_numbers x.settings) ≡ true
  pub rest : every is_finite x.rest ≡ true
  pub drape : every is_finite x.drape ≡ true

pub record Isolated (s : ℕ) (cs ds : List Call) : Type 0 where
  pub same_answers : answers_to (kept_by (eqb s)) cs new_bench ≡ answers ds new_bench
  pub same_strand : strand_of s (after cs new_bench) ≡ strand_of s (after ds new_bench)
  pub finite_answers : every finite_answer (answers_to (kept_by (eqb s)) cs new_bench) ≡ true
  pub finite : Finite (strand_of s (after cs new_bench))
  pub pins_hold : (i j : ℕ) → i < (strand_of s (after cs new_bench)).count → j < 3
      → StaysIfPinned (story i j empty (history s cs new_bench)) (position i j (strand_of s (after cs new_bench)).drape)

abbrev pub Isolation : Type 0
Isolation = (s : ℕ) (cs ds : List Call) → s < seats → SameCalls ds (solo (kept_by (eqb s)) cs) → Isolated s cs ds

-- ---- beside it, of every call on every bench

-- What a lent work area holds changes no answer and nothing on the bench.
abbrev pub ContentsDoNotMatter : Type 0
ContentsDoNotMatter = (c d : Call) (b : Bench) → Same c d → (answer_of c b ≡ answer_of d b) × (after_of c b ≡ after_of d b)

pub record Answered (c : Call) (b : Bench) : Type 0 where
  -- its rows have numbers of the table, so that one that fails refuses; and its own number is one of them, or 0
  pub rows : every in_table (case_of c.asks (lent_of c) b).rows ≡ true
  pub bound : number_of c b ≤ last_number
  -- with 0 it answers as its case says; with another it answers that refusal and changes nothing
  pub accepted : number_of c b ≡ 0 → answer_of c b ≡ (case_of c.asks (lent_of c) b).answer
  pub declined : number_of c b ≢ 0 → answer_of c b ≡ refusal c.asks (number_of c b)
  pub unchanged : number_of c b ≢ 0 → after_of c b ≡ b
  -- either way its answer tells the number, but for a look's
  pub tells : Tells (answer_of c b) (number_of c b)

abbrev pub EveryCallAnswers : Type 0
EveryCallAnswers = (c : Call) (b : Bench) → Answered c b

-- The companion says what the look is refused with.
abbrev pub CompanionTells : Type 0
CompanionTells = (s kind : ℕ) (b : Bench) → answer_of (call s (companion kind)) b ≡ said (number_of (call s (look kind)) b)
