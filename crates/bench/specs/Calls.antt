-- The calls on the bench: the number that each is refused with, what it answers, and the bench after it.
use Rattle.std.specs.Prelude.{Bool, not, ◌||◌, List, [], ◌∷◌, ◌++◌, ℕ, zero, suc, eqb, length}
use Rattle.matrix.specs.Area.{work_numbers}
use Rattle.bench.specs.declared.seats.Record.{Record}
use Rattle.bench.specs.Areas.{rest_numbers, drape_numbers, pin_bytes}
use Rattle.bench.specs.Strand.{Strand, Bench, strand_of, Left, on_seat, put_all}
use Rattle.bench.specs.Given.{good_record}
use Rattle.bench.specs.Rows.{Row, unless, all, first}
use Rattle.bench.specs.Answers.{Answer}
use Rattle.bench.specs.Asks.{refusal_at, Asks, of, Call, are_seats, Lends, lends, Lent, lent_of}
use Rattle.bench.specs.Requests.{Case, comes, case_at}

-- ---- the rows of every call

abbrev pub rest_long : Bench → Bool
rest_long b = eqb (length b.rest) rest_numbers

abbrev pub drape_long : Bench → Bool
drape_long b = eqb (length b.drape) drape_numbers

abbrev pub pins_long : Bench → Bool
pins_long b = eqb (length b.pins) pin_bytes

-- Whether the areas that a request is lent have their lengths.
unfoldable pub lent_long : Lends → Lent → Bench → Bool
lent_long e l b = all ((not e.rest || rest_long b) ∷ (not e.drape || drape_long b) ∷ (not e.pins || pins_long b) ∷ (not e.work || eqb l.work_length work_numbers) ∷ [])

-- "a lent area has another length, or the record has a count that is neither 0 nor 2 to 32, or at a taken seat a setting that load declines under 6"; "seat above 5", of the seats l that the call is on
unfoldable pub seat_rows : Bool → List ℕ → Record → List Row
seat_rows long l r = unless 1 (long ∷ good_record r ∷ []) ∷ unless 2 (are_seats l ∷ []) ∷ []

unfoldable pub case_of : Asks → Lent → Bench → Case Left
case_of (of s a) l b = let c : Case Strand = case_at a (strand_of s b) in comes (seat_rows (lent_long (lends a) l b) (s ∷ []) b.seats ++ c.rows) c.answer (on_seat s c.leaves)

-- ---- a refused call

-- How a call is answered that is refused with k.
abbrev pub refusal : Asks → ℕ → Answer
refusal (of s a) k = refusal_at a k

-- The answer, by the number: r where it is 0.
abbrev pub answer_by : Asks → ℕ → Answer → Answer
answer_by a zero r = r
answer_by a (suc k) r = refusal a (suc k)

-- "A declined call changes no record, rest, drape or pin byte."
abbrev pub leaves_by : ℕ → List Left → List Left
leaves_by zero ls = ls
leaves_by (suc k) ls = []

-- ---- every call

pub record Done : Type 0 where
  -- the number that it is refused with, 0 for none
  pub number : ℕ
  pub answer : Answer
  -- the strands that it leaves, each on its seat; all others stay
  pub leaves : List Left

unfoldable pub done_of : Call → Bench → Done
done_of c b =
    let k : Case Left = case_of c.asks (lent_of c) b in
    let n : ℕ = first k.rows in
    record { number = n; answer = answer_by c.asks n k.answer; leaves = leaves_by n k.leaves }

abbrev pub number_of : Call → Bench → ℕ
number_of c b = (done_of c b).number

abbrev pub answer_of : Call → Bench → Answer
answer_of c b = (done_of c b).answer

abbrev pub leaves_of : Call → Bench → List Left
leaves_of c b = (done_of c b).leaves

abbrev pub after_of : Call → Bench → Bench
after_of c b = put_all (leaves_of c b) b
