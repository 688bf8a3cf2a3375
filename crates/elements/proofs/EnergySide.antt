-- Stiffnesses on the plus side of 0 make energies there. Each term has its r twice and so keeps the side of its k, whatever r is; sums of such terms, and half of them, stay on that side.
use mathlib.Core.Path.{◌≡◌, refl}
use mathlib.Core.Bool.{false}
use lib.IntN.{negsuc}
use lib.Ieee.{fin, of_bits}
use Rattle.vectors.specs.Signs.{plus, number, Side, signed}
use Rattle.vectors.proofs.Signs.{mul_side, square_side, add_side}
use Rattle.elements.specs.Square.{half, square}
use Rattle.elements.specs.Spring3.{stretch_energy, StretchNotBelow}
use Rattle.elements.specs.Bend.{bend_energy, BendNotBelow}

half_is : half ≡ fin false 1 (negsuc 0)
unfolding of_bits
half_is = refl

pub half_side : Side plus half
half_side = rw half_is (signed (number 1 (negsuc 0)))

pub stretch_not_below : StretchNotBelow
unfolding stretch_energy square
stretch_not_below k p0 p1 ini p = square_side (mul_side half_side p) _

pub bend_not_below : BendNotBelow
unfolding bend_energy square
bend_not_below k r p q s = mul_side half_side (add_side (add_side (square_side p r.x) (square_side q r.y)) (square_side s r.z))
