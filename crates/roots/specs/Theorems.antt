-- What is proved of the root beyond the contracts: each theorem that the documents claim. proofs/Theorems.antt has a proof of every one.
use Rattle.roots.specs.Correct.{RootIsRounded, SqrtIsRounded, SqrtNeverTies, SqrtIsMonotone, SqrtFits, WrittenInUnits}
use Rattle.roots.specs.Examples.{ExamplesHold}
use Rattle.roots.specs.Samples.{SamplesHold}

pub record Theorems : Type 0 where
  -- the root of a fraction, where it does not overflow, is a finite value of the format, none is nearer, and a tie goes to even
  pub root_is_rounded : RootIsRounded
  -- so is the root of every positive finite value
  pub sqrt_is_rounded : SqrtIsRounded
  -- no root of a value lies midway between two values
  pub sqrt_never_ties : SqrtNeverTies
  -- the rounded root keeps the order
  pub sqrt_is_monotone : SqrtIsMonotone
  -- the root of any value of the format is one
  pub sqrt_fits : SqrtFits
  -- a value is a whole number of units: its significand times a power of two
  pub written_in_units : WrittenInUnits
  -- document 01's P1 to P4
  pub examples : ExamplesHold
  -- the further roots
  pub samples : SamplesHold
