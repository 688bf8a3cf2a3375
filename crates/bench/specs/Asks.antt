-- What may be asked of the bench: calls, the seats that they name, and the areas that they are lent.
use Rattle.std.specs.Prelude.{Bool, true, false, cond, List, [], ◌∷◌, ℕ, ltb, length, Float}
use Rattle.matrix.specs.System.{every}
use Rattle.bench.specs.declared.answers.Pick.{Pick}
use Rattle.bench.specs.declared.answers.StepAnswer.TheVariants.{Refused}
use Rattle.bench.specs.declared.seats.Settings.{Settings}
use Rattle.bench.specs.Areas.{seats}
use Rattle.bench.specs.Refusals.{refusal_of}
use Rattle.bench.specs.Answers.{Answer, said, handed, reported}
use Rattle.bench.specs.Step.{Time}

-- What a load gives: the number of vertices, the settings, and three numbers a vertex in each list.
pub record Load : Type 0 where
  pub count : ℕ
  pub settings : Settings
  pub positions : List Float
  pub frames : List Float

abbrev pub load_of : ℕ → Settings → List Float → List Float → Load
load_of n g xs fs = record { count = n; settings = g; positions = xs; frames = fs }

-- What is asked of one seat, with all that the call gives.
pub data Request : Type 0 where
  -- a strand is laid on the seat
  load : (given : Load) → Request
  -- the seat is emptied
  unload : Request
  -- the byte becomes the pin of one component of a vertex; component 3 is the twist
  pin : (vertex component byte : ℕ) → Request
  -- a part of the rest or the drape is handed back
  look : (kind : ℕ) → Request
  -- the number that the look of this kind is refused with, 0 for none
  companion : (kind : ℕ) → Request
  -- one step of the strand, static or dynamic
  step : (pick : Pick) (time : Time) → Request

-- How it is answered where it is refused with k.
abbrev pub refusal_at : Request → ℕ → Answer
refusal_at (load g) k = said k
refusal_at unload k = said k
refusal_at (pin v c x) k = said k
refusal_at (look j) k = handed []
refusal_at (companion j) k = said k
refusal_at (step p d) k = reported (Refused (refusal_of k))

-- What is asked of the bench: a request to a seat.
pub data Asks : Type 0 where
  of : (seat : ℕ) (request : Request) → Asks

-- A call: what it asks, and what the work area holds that it is lent. Nothing goes by that list where none is lent; `call` leaves it empty.
pub record Call : Type 0 where
  pub asks : Asks
  pub work : List Float

-- A request to seat s, lent the work area w, or none.
abbrev pub call_with : List Float → ℕ → Request → Call
call_with w s a = record { asks = of s a; work = w }

abbrev pub call : ℕ → Request → Call
call s a = call_with [] s a

-- ---- the seats that a call names

-- Whether all of a list are seats of the bench; and the list if they are, else none of it.
abbrev pub are_seats : List ℕ → Bool
are_seats l = every (λ (s : ℕ). ltb s seats) l

abbrev pub known : List ℕ → List ℕ
known l = cond (are_seats l) l []

-- A call on a seat that there is not names none.
abbrev pub names : Asks → List ℕ
names (of s a) = known (s ∷ [])

-- ---- the areas that a call is lent

-- Which of the four.
pub record Lends : Type 0 where
  pub rest : Bool
  pub drape : Bool
  pub pins : Bool
  pub work : Bool

abbrev pub lending : Bool → Bool → Bool → Bool → Lends
lending r d p w = record { rest = r; drape = d; pins = p; work = w }

abbrev pub lends : Request → Lends
lends (load g) = lending true true true false
lends unload = lending true true true false
lends (pin v c x) = lending false false true false
lends (look k) = lending true true false false
lends (companion k) = lending true true false false
lends (step p d) = lending true true true true

-- All that a call goes by of the work area: its length.
pub record Lent : Type 0 where
  pub work_length : ℕ

unfoldable pub lent_of : Call → Lent
lent_of c = record { work_length = length c.work }
