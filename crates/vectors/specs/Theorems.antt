-- What is proved of vectors, blocks and angles beyond the contracts: each theorem that the documents claim. proofs/Theorems.antt has a proof of every one.
use Rattle.vectors.specs.Number.{OneTimes}
use Rattle.vectors.specs.Signs.{SignLaws}
use Rattle.vectors.specs.Finite.{FiniteTests}
use Rattle.vectors.specs.Fits.{ResultsFit}
use Rattle.vectors.specs.Edge.{NormReversed}
use Rattle.vectors.specs.Angle.{SineRule, CosineRule}
use Rattle.vectors.specs.Samples.{SamplesHold}

pub record Theorems : Type 0 where
  -- every result is made of values of the format
  pub results_fit : ResultsFit
  -- what a test for finite numbers says
  pub finite_tests : FiniteTests
  -- the sign of products and sums, and the side of 0 on which they lie
  pub sign_laws : SignLaws
  -- 1 times a number is that number
  pub one_times : OneTimes
  -- an edge is as long from either end
  pub norm_reversed : NormReversed
  -- the code's table of sine follows the rule of its divisors
  pub sine_rule : SineRule
  -- so does the table of cosine
  pub cosine_rule : CosineRule
  -- the samples of angles, vectors, blocks and a rotation
  pub samples : SamplesHold
