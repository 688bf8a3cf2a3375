-- The bounds of the test that ends the solve. The rounded root keeps the order: from a number on whose own root is not below the tolerance, no root is.
-- Such is 0 for a tolerance that is not above 0, and else a number above the tolerance's rounded square. From infinity on there is only infinity, whose root is below nothing.
use mathlib.Core.Path.{◌≡◌, sym, ◌∙◌}
use mathlib.Core.Bool.{true, false, true≢false}
use lib.Dec.{T}
use lib.Ieee.{Float, nan, inf, fin, binary64, fits, of_bits, div, lt, eq, le}
use Rattle.roots.specs.Sqrt.{sqrt_of}
use Rattle.roots.proofs.Monotone.{sqrt_monotone}
use Rattle.vectors.specs.Number.{◌⊗◌, ◌⊘◌, plus_zero, plus_one}
use Rattle.vectors.proofs.FloatOrder.{lt_le, not_below, infinite}
use Rattle.vectors.proofs.SquareUnder.{square_under}
use Rattle.matrix.specs.RootBound.{NoneBelow, RootIfBelow}

by_root : (tolerance bound : Float) → T (le plus_zero bound) → lt (sqrt_of bound) tolerance ≡ false → NoneBelow tolerance bound
by_root tolerance bound z p q h =
    let l : T (le bound q) = rw h tt in
    not_below (sqrt_of bound) (sqrt_of q) tolerance (sqrt_monotone bound q z l) p

pub zero_bounds : (tolerance : Float) → lt plus_zero tolerance ≡ false → NoneBelow tolerance plus_zero
unfolding of_bits lt eq le sqrt_of
zero_bounds tolerance p = by_root tolerance plus_zero tt p

pub above_square_bounds : (tolerance bound : Float) → T (fits binary64 tolerance) → T (fits binary64 bound) → lt plus_zero tolerance ≡ true → lt (tolerance ⊗ tolerance) bound ≡ true → NoneBelow tolerance bound
above_square_bounds tolerance bound f g p l =
    let u = square_under tolerance bound f g p l in
    by_root tolerance bound (lt_le plus_zero bound u.0) u.1

abbrev infinity : Float
infinity = plus_one ⊘ plus_zero

below_nothing : (z : Float) → lt infinity z ≡ false
unfolding of_bits div
below_nothing z = infinite z

pub infinity_bounds : (tolerance : Float) → NoneBelow tolerance infinity
unfolding of_bits div le lt eq sqrt_of
infinity_bounds tolerance nan h = absurd (true≢false (sym h))
infinity_bounds tolerance (inf true) h = absurd (true≢false (sym h))
infinity_bounds tolerance (inf false) h = infinite tolerance
infinity_bounds tolerance (fin s m e) h = absurd (true≢false (sym h))

-- infinity serves in place of a root that is not below the tolerance
pub in_place : (q tolerance bound : Float) → NoneBelow tolerance bound → le bound q ≡ true → RootIfBelow q tolerance infinity
in_place q tolerance bound b h = record {
  same = below_nothing tolerance ∙ sym (b q h);
  root = λ t. absurd (true≢false (sym t ∙ below_nothing tolerance));
}
