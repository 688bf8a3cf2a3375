-- The theorems of specs/Theorems.antt, each by its proof: without one of them this page is refused.
use Rattle.roots.specs.Theorems.{Theorems}
use Rattle.roots.proofs.Spacing.{written}
use Rattle.roots.proofs.Correct.{root_rounded, sqrt_rounded, sqrt_fits}
use Rattle.roots.proofs.Ties.{sqrt_never_ties}
use Rattle.roots.proofs.Monotone.{sqrt_monotone}
use Rattle.roots.proofs.Examples.{table, samples}

theorems : Theorems
theorems = record {
  root_is_rounded = root_rounded;
  sqrt_is_rounded = sqrt_rounded;
  sqrt_never_ties = sqrt_never_ties;
  sqrt_is_monotone = sqrt_monotone;
  sqrt_fits = sqrt_fits;
  written_in_units = written;
  examples = table;
  samples = samples;
}
