-- The energy of a strand is a sum from +0 on of what its elements store. None of that is below 0 where no stiffness is, so the sign of the sum stays plus through every element.
use Prim.Native.Nat.{ℕ, zero, suc, ◌-◌}
use lib.Ieee.{Float}
use Rattle.vectors.specs.Signs.{plus, Sign, Side}
use Rattle.vectors.specs.declared.vec3.Vec3.{Vec3}
use Rattle.vectors.proofs.Signs.{zero_sign, add_plus}
use Rattle.elements.proofs.Energy.{stretch_energy_lem, bend_energy_lem}
use Rattle.elements.proofs.EnergySide.{stretch_not_below, bend_not_below}
use Rattle.matrix.specs.Parts.{table}
use Rattle.matrix.specs.HairSystem.{Element, stretch_element, bend_element, Shape, stretch_at, bend_at, stretches, bends, sum_energies, hair_elements, hair_energy, EnergyHasPlus}
use Rattle.matrix.proofs.SystemLaws.{energies_join}

sum_has_plus : (m : ℕ) (f : ℕ → Element) {s : Float} → Sign plus s → ((i : ℕ) → Side plus (f i).energy) → Sign plus (sum_energies s (table m f))
unfolding sum_energies table
sum_has_plus zero f p q = p
sum_has_plus (suc m) f p q = sum_has_plus m (λ i. f (suc i)) (add_plus p (q zero)) (λ i. q (suc i))

stretch_at_lem : (rest staged : Shape) (k : Float) → Side plus k → (i : ℕ) → Side plus (stretch_element i (stretch_at rest.positions staged.positions k i)).energy
unfolding stretch_element stretch_at
stretch_at_lem rest staged k p i = rw stretch_energy_lem (stretch_not_below k _ _ _ p)

bend_at_lem : (rest staged : Shape) (k : Vec3) → Side plus k.x → Side plus k.y → Side plus k.z → (i : ℕ) → Side plus (bend_element i (bend_at rest staged k i)).energy
unfolding bend_element bend_at
bend_at_lem rest staged k p q s i = rw bend_energy_lem (bend_not_below k _ p q s)

pub energy_has_plus : EnergyHasPlus
unfolding hair_energy hair_elements stretches bends
energy_has_plus n rest staged stretch bend p x y z = rw (← energies_join) (sum_has_plus (n - 2) _ (sum_has_plus (n - 1) _ zero_sign (stretch_at_lem rest staged stretch p)) (bend_at_lem rest staged bend x y z))
