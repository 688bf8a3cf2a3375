-- Lists of calls: which of them a seat alone would make, what is answered, and the bench in the end.
use Rattle.std.specs.Prelude.{◌≡◌, Bool, true, false, ◌||◌, List, [], ◌∷◌, ℕ, ◌<◌, eqb, length, Float}
use Rattle.bench.specs.Areas.{seats}
use Rattle.bench.specs.Strand.{Bench, put_all}
use Rattle.bench.specs.Rows.{any}
use Rattle.bench.specs.Answers.{Answer}
use Rattle.bench.specs.Asks.{Request, Asks, of, Call, call_with, names}
use Rattle.bench.specs.Calls.{Done, done_of, answer_of, after_of}

-- ---- all answers, and the bench in the end; each call is worked out once

pub record Run : Type 0 where
  pub answers : List Answer
  pub bench : Bench

unfoldable pub run : List Call → Bench → Run
run [] b = record { answers = []; bench = b }
run (c ∷ cs) b = let d : Done = done_of c b in let r : Run = run cs (put_all d.leaves b) in record { answers = d.answer ∷ r.answers; bench = r.bench }

abbrev pub answers : List Call → Bench → List Answer
answers cs b = (run cs b).answers

abbrev pub after : List Call → Bench → Bench
after cs b = (run cs b).bench

-- ---- a solo run

-- Whether the call is in every solo run: none of these is.
abbrev pub always : Asks → Bool
always (of s a) = false

-- Whether the solo run of a party of seats has the call: one that all have, or one that names a member.
abbrev pub kept_by : (ℕ → Bool) → Call → Bool
kept_by party c = always c.asks || any party (names c.asks)

-- "The second list, the seat's solo run, keeps in order the calls whose seat number is that seat's; a call on seat 6 or above is in no solo run." The party of seat s alone is `eqb s`.
abbrev pub KeepsItsOwn : Type 0
KeepsItsOwn = (s t : ℕ) (a : Request) (w : List Float) → s < seats → kept_by (eqb s) (call_with w t a) ≡ eqb s t

abbrev pub keep : {A : Type 0} → Bool → A → List A → List A
keep true x l = x ∷ l
keep false x l = l

-- The kept calls, in order.
unfoldable pub solo : (Call → Bool) → List Call → List Call
solo kept [] = []
solo kept (c ∷ cs) = keep (kept c) c (solo kept cs)

-- The answers to those calls of the whole list, with all others made between them.
unfoldable pub answers_to : (Call → Bool) → List Call → Bench → List Answer
answers_to kept [] b = []
answers_to kept (c ∷ cs) b = keep (kept c) (answer_of c b) (answers_to kept cs (after_of c b))

-- ---- "What the work area holds is free at each call": the same calls, but for that

pub record Same (c d : Call) : Type 0 where
  pub asks : c.asks ≡ d.asks
  pub long : length c.work ≡ length d.work

pub data SameCalls : List Call → List Call → Type 0 where
  none : SameCalls [] []
  more : {c d : Call} {cs ds : List Call} → Same c d → SameCalls cs ds → SameCalls (c ∷ cs) (d ∷ ds)

-- Every list is the same calls as itself, so a solo run is one of the lists that the theorem holds it against.
abbrev pub SameAsItself : Type 0
SameAsItself = (cs : List Call) → SameCalls cs cs
