-- What the calls promise, put together, is the definition; the energy is the dot product written out.
use Rattle.std.proofs.Common.{◌≡◌, rules, arith}
use Rattle.std.proofs.lemmas.Grind.{common_steps}
use Rattle.vectors.specs.Vec3.{vec3_dot}
use Rattle.elements.specs.Square.{square}
use Rattle.elements.specs.Darboux.{zero_vec3}
use Rattle.elements.specs.Bend.{entrywise, bend_energy, bend_row0, bend_row1, bend_row2, approx_hessian_of}
use Rattle.elements.proofs.rod3_darboux.bend.approx_hessian.Goals as goal

pub returns : goal.returns
unfolding approx_hessian_of bend_energy square entrywise bend_row0 bend_row1 bend_row2 vec3_dot
returns c = let no_coupling : c.default-none.result ≡ zero_vec3 = search rules in grind (arith, common_steps, no_coupling)
