-- The energy that an element answers is the one defined apart from gradient and blocks. Both are the same expression.
use mathlib.Core.Path.{◌≡◌, refl}
use lib.Ieee.{Float}
use Rattle.vectors.specs.Vec3.{vec3_sub}
use Rattle.vectors.specs.declared.vec3.Vec3.{Vec3}
use Rattle.elements.specs.Spring3.{stretch_energy, stretch_of_length, wdwddw_squared_length_difference}
use Rattle.elements.specs.Darboux.{cdc_rod_darboux}
use Rattle.elements.specs.Bend.{bend_energy, approx_hessian_of, wdwdwdw_darboux_rod_hair_approx_hessian}
use Rattle.elements.specs.declared.rod3_darboux.Rod.{Rod}

pub stretch_energy_lem : (stiffness : Float) (p0 p1 : Vec3) (ini : Float) → (wdwddw_squared_length_difference stiffness p0 p1 ini).w ≡ stretch_energy stiffness p0 p1 ini
unfolding stretch_energy stretch_of_length wdwddw_squared_length_difference
stretch_energy_lem stiffness p0 p1 ini = refl

pub bend_energy_lem : (rod : Rod) (k darboux : Vec3) → (wdwdwdw_darboux_rod_hair_approx_hessian rod k darboux).w ≡ bend_energy k (vec3_sub (cdc_rod_darboux rod).c darboux)
unfolding approx_hessian_of wdwdwdw_darboux_rod_hair_approx_hessian
bend_energy_lem rod k darboux = refl
