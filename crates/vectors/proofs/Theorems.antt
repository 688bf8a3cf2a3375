-- The theorems of specs/Theorems.antt, each by its proof: without one of them this page is refused.
use Rattle.vectors.specs.Theorems.{Theorems}
use Rattle.vectors.proofs.Finiteness.{finite_tests}
use Rattle.vectors.proofs.Fitting.{results_fit}
use Rattle.vectors.proofs.Signs.{sign_laws}
use Rattle.vectors.proofs.OneTimes.{one_times}
use Rattle.vectors.proofs.Reversed.{norm_reversed}
use Rattle.vectors.proofs.Series.{sine_rule, cosine_rule}
use Rattle.vectors.proofs.Samples.{samples}

theorems : Theorems
theorems = record {
  results_fit = results_fit;
  finite_tests = finite_tests;
  sign_laws = sign_laws;
  one_times = one_times;
  norm_reversed = norm_reversed;
  sine_rule = sine_rule;
  cosine_rule = cosine_rule;
  samples = samples;
}
