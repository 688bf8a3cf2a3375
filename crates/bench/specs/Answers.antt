-- What calls answer.
use Rattle.std.specs.Prelude.{◌≡◌, Bool, true, ◌&&◌, List, ℕ, Float}
use Rattle.vectors.specs.Number.{plus_zero}
use Rattle.vectors.specs.Finite.{is_finite}
use Rattle.matrix.specs.System.{every}
use Rattle.bench.specs.Refusals.{refusal_number}
use Rattle.bench.specs.declared.answers.StepAnswer.{StepAnswer}
use Rattle.bench.specs.declared.answers.StepAnswer.TheVariants.{Accepted, Refused}

-- "A call's answer is its refusal number, or that it is accepted; a step's also energy, count and last ratio"; a look's "is only the numbers handed back".
pub data Answer : Type 0 where
  -- 0 for accepted
  said : (number : ℕ) → Answer
  handed : (numbers : List Float) → Answer
  reported : (step : StepAnswer) → Answer

-- A step's answer in document 01's numbers.
pub record StepNumbers : Type 0 where
  -- what it is refused with, 0 where it is accepted
  pub number : ℕ
  pub energy : Float
  pub count : ℕ
  pub ratio : Float

-- "Energy, count and ratio are then 0": the number k with nothing beside it.
abbrev pub number_alone : ℕ → StepNumbers
number_alone k = record { number = k; energy = plus_zero; count = 0; ratio = plus_zero }

-- "a definition tells you this paper's number and values for each of its cases"
unfoldable pub step_numbers : StepAnswer → StepNumbers
step_numbers (Accepted e x k) = record { number = 0; energy = e; count = k; ratio = x }
step_numbers (Refused r) = number_alone (refusal_number r)

-- The same of any answer: one that is no step's has its number alone, and a look's has none.
unfoldable pub numbers_told : Answer → StepNumbers
numbers_told (said k) = number_alone k
numbers_told (handed l) = number_alone 0
numbers_told (reported r) = step_numbers r

-- Whether every f64 that it tells is finite.
unfoldable pub finite_answer : Answer → Bool
finite_answer (said k) = true
finite_answer (handed l) = every is_finite l
finite_answer (reported r) = is_finite (step_numbers r).energy && is_finite (step_numbers r).ratio

-- The answer tells the number n, 0 for accepted; a look's tells none.
abbrev pub Tells : Answer → ℕ → Type 0
Tells (said k) n = k ≡ n
Tells (handed l) n = Unit
Tells (reported r) n = (step_numbers r).number ≡ n
