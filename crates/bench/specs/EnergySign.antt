-- No accepted step reports an energy with a minus sign.
--
-- Take any call on any bench: the record and the areas may hold anything, and the areas may have any lengths. If the call is answered as a step that is accepted with the energy e, then e is a finite number,
-- not below 0, and not -0.
--
-- Nothing is asked of the stiffnesses here. Refusal 1 asks of every taken seat, at every call, what load asks under 6: finite and not below 0.
use Rattle.std.specs.Prelude.{◌≡◌, true, false, ◌≢◌, ℕ, Float}
use Rattle.std.specs.Float.Ieee.{lt}
use Rattle.vectors.specs.Number.{plus_zero, minus_zero}
use Rattle.vectors.specs.Finite.{is_finite}
use Rattle.bench.specs.declared.answers.StepAnswer.TheVariants.{Accepted}
use Rattle.bench.specs.Strand.{Bench}
use Rattle.bench.specs.Answers.{reported}
use Rattle.bench.specs.Asks.{Call}
use Rattle.bench.specs.Calls.{answer_of}

pub record NoMinus (e : Float) : Type 0 where
  -- neither infinite nor NaN; +infinity and NaN would not be below 0 either
  pub finite : is_finite e ≡ true
  -- by the comparison of IEEE 754, to which -0 and +0 are equal
  pub not_below : lt e plus_zero ≡ false
  -- so this is said apart
  pub not_minus_zero : e ≢ minus_zero

abbrev pub EnergyHasNoMinus : Type 0
EnergyHasNoMinus = (c : Call) (b : Bench) (e ratio : Float) (count : ℕ) → answer_of c b ≡ reported (Accepted e ratio count) → NoMinus e
