-- The reasons for which the code declines, and what its outcomes say in document 01's numbers.
use Rattle.std.specs.Prelude.{[], ◌∷◌, ℕ, ◌-◌, get_or}
use Rattle.std.specs.declared.result.Result.{Result}
use Rattle.std.specs.declared.result.Result.TheVariants.{Ok, Err}
use Rattle.bench.specs.declared.refusal.Refusal.{Refusal}
use Rattle.bench.specs.declared.refusal.Refusal.TheVariants.{Lent, Seat, Occupancy, Lists, Index, Number, Edge, System, Solution, Turn, Drape}
use Rattle.bench.specs.declared.answers.StepAnswer.{StepAnswer}
use Rattle.bench.specs.declared.answers.StepAnswer.TheVariants.{Accepted, Refused}
use Rattle.bench.specs.declared.answers.Numbers.{Numbers}
use Rattle.bench.specs.declared.seats.Record.{Record}

-- "When the bench declines": the number of each row
unfoldable pub refusal_number : Refusal → ℕ
refusal_number Lent = 1
refusal_number Seat = 2
refusal_number Occupancy = 3
refusal_number Lists = 4
refusal_number Index = 5
refusal_number Number = 6
refusal_number Edge = 7
refusal_number System = 8
refusal_number Solution = 9
refusal_number Turn = 10
refusal_number Drape = 11

-- The reason that has the number k, of those that the table has.
unfoldable pub refusal_of : ℕ → Refusal
refusal_of k = get_or (Lent ∷ Seat ∷ Occupancy ∷ Lists ∷ Index ∷ Number ∷ Edge ∷ System ∷ Solution ∷ Turn ∷ Drape ∷ []) (k - 1) Drape

-- The number that an outcome tells: 0 where nothing is refused.
unfoldable pub told : {A : Type 0} → Result A Refusal → ℕ
told (Ok x) = 0
told (Err r) = refusal_number r

-- The record after a call that was made with s.
unfoldable pub record_after : Record → Result Record Refusal → Record
record_after s (Ok x) = x
record_after s (Err r) = s

-- What a step answers, of the three numbers of an accepted one.
unfoldable pub answered : Result Numbers Refusal → StepAnswer
answered (Ok x) = Accepted x.energy x.ratio x.count
answered (Err r) = Refused r
