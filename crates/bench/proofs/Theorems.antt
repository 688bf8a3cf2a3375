-- The theorems of specs/Theorems.antt, each by its proof: without one of them this page is refused.
use Rattle.bench.specs.Theorems.{Theorems}
use Rattle.bench.proofs.Filled.{filled}
use Rattle.bench.proofs.EveryCall.{every_call_answers, companion_tells}
use Rattle.bench.proofs.Contents.{contents_do_not_matter, same_as_itself}
use Rattle.bench.proofs.Isolated.{keeps_its_own, isolation}
use Rattle.bench.proofs.AcceptedKinds.{step_accepts, static_keeps}
use Rattle.bench.proofs.EnergySign.{energy_has_no_minus}
use Rattle.bench.proofs.Examples.{examples, pins_told}
use Rattle.bench.proofs.Samples.{step_samples}
use Rattle.bench.proofs.SamplesTwoSteps.{two_step_samples}

theorems : Theorems
theorems = record {
  isolation = isolation;
  solo = keeps_its_own;
  same = same_as_itself;
  contents = contents_do_not_matter;
  answers = every_call_answers;
  companion = companion_tells;
  steps = step_accepts;
  static = static_keeps;
  energy = energy_has_no_minus;
  areas = filled;
  examples = examples;
  pins_told = pins_told;
  step_samples = step_samples;
  two_step_samples = two_step_samples;
}
