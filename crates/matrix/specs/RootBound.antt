-- What spares the solve the roots that cannot end it: a bound from which on no root is below the tolerance, and an answer to the test in the root's place.
use Rattle.std.specs.Prelude.{◌≡◌, true, false, T, Float}
use Rattle.std.specs.Float.{binary64}
use Rattle.std.specs.Float.Ieee.{fits, lt, le}
use Rattle.roots.specs.Sqrt.{sqrt_of}
use Rattle.vectors.specs.Number.{◌⊗◌, ◌⊘◌, plus_zero, plus_one}

-- No number from the bound on has a root below the tolerance.
abbrev pub NoneBelow : Float → Float → Type 0
NoneBelow tolerance bound = (q : Float) → le bound q ≡ true → lt (sqrt_of q) tolerance ≡ false

-- x is below the tolerance where q's root is, and is that root then.
pub record RootIfBelow (q tolerance x : Float) : Type 0 where
  pub same : lt x tolerance ≡ lt (sqrt_of q) tolerance
  pub root : lt x tolerance ≡ true → x ≡ sqrt_of q

-- 0 is such a bound for a tolerance that is not above 0.
abbrev pub ZeroBounds : Type 0
ZeroBounds = (tolerance : Float) → lt plus_zero tolerance ≡ false → NoneBelow tolerance plus_zero

-- For one above 0 every number above its rounded square is.
abbrev pub AboveSquareBounds : Type 0
AboveSquareBounds = (tolerance bound : Float) → T (fits binary64 tolerance) → T (fits binary64 bound) → lt plus_zero tolerance ≡ true → lt (tolerance ⊗ tolerance) bound ≡ true → NoneBelow tolerance bound

-- Infinity is, for every tolerance.
abbrev pub InfinityBounds : Type 0
InfinityBounds = (tolerance : Float) → NoneBelow tolerance (plus_one ⊘ plus_zero)

-- From a bound on, infinity serves in the root's place.
abbrev pub InfinityInPlace : Type 0
InfinityInPlace = (q tolerance bound : Float) → NoneBelow tolerance bound → le bound q ≡ true → RootIfBelow q tolerance (plus_one ⊘ plus_zero)
