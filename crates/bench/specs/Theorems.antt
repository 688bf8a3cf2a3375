-- What is proved of the bench beyond the contracts: each theorem that the documents claim. proofs/Theorems.antt has a proof of every one.
use Rattle.bench.specs.Areas.{Filled}
use Rattle.bench.specs.Runs.{KeepsItsOwn, SameAsItself}
use Rattle.bench.specs.Isolation.{Isolation, ContentsDoNotMatter, EveryCallAnswers, CompanionTells}
use Rattle.bench.specs.Accepted.{StepAccepts, StaticKeeps}
use Rattle.bench.specs.EnergySign.{EnergyHasNoMinus}
use Rattle.bench.specs.Examples.{Examples, PinsTold}
use Rattle.bench.specs.SamplesStep.{StepSamples}
use Rattle.bench.specs.SamplesTwoSteps.{TwoStepSamples}

pub record Theorems : Type 0 where
  -- no seat's strand can touch another's; all stays finite, and pins hold
  pub isolation : Isolation
  -- a seat's solo run has the calls on it and no other; the theorem holds of that run itself
  pub solo : KeepsItsOwn
  pub same : SameAsItself
  -- what a lent work area holds does not matter
  pub contents : ContentsDoNotMatter
  -- every call is accepted, or refused with a number of the table and then changes nothing
  pub answers : EveryCallAnswers
  -- the companion says what the look is refused with
  pub companion : CompanionTells
  -- what holds after every accepted step, and what a static one leaves alone
  pub steps : StepAccepts
  pub static : StaticKeeps
  -- no accepted step reports an energy with a minus sign
  pub energy : EnergyHasNoMinus
  -- six parts fill an area
  pub areas : Filled
  -- document 01's P1 to P10
  pub examples : Examples
  -- what two of them tell of a pin
  pub pins_told : PinsTold
  -- whole steps, against the unchanged Rust
  pub step_samples : StepSamples
  pub two_step_samples : TwoStepSamples
