-- The steps of the assembly put together: each reads the staged shape, which is that of the beginning, and adds its elements to the system of those before.
use mathlib.Core.Path.{◌≡◌, ap, ◌∙◌}
use mathlib.Core.List.{List, []}
use Prim.Native.Nat.{ℕ, ◌-◌, ◌≤◌}
use native.Mathlib.Omega.{arith}
use lib.Ieee.{Float}
use Rattle.vectors.specs.Number.{plus_zero}
use Rattle.vectors.specs.declared.vec3.Vec3.{Vec3}
use Rattle.matrix.specs.Rows.{rows3}
use Rattle.matrix.specs.Area.{place_positions, after_vectors}
use Rattle.matrix.specs.System.{system_at}
use Rattle.matrix.specs.HairSystem.{Shape, staged_shape, stretches, bends, plus_elements, sum_energies, assembled, with_diagonal, hair_elements, hair_energy, hair_system}
use Rattle.matrix.specs.Edges.{edge_lengths, stretches_by}
use Rattle.matrix.proofs.Shapes.{rows3_kept, shape_kept}
use Rattle.matrix.proofs.EdgeLaws.{stretches_by_lem}
use Rattle.matrix.proofs.SystemLaws.{assembled_join, energies_join}

module _ (n : ℕ) (rest : Shape) (stretch : Float) (bend : Vec3) (ini w w₁ w₂ w₃ w₄ : List Float) (x y : Float)
    (h : n ≤ 32)
    (ei : ini ≡ edge_lengths (n - 1) rest.positions)
    (e₁ : system_at n w₁ ≡ assembled n [])
    (a₁ : after_vectors w₁ ≡ after_vectors w)
    (ex : x ≡ sum_energies plus_zero (stretches_by n ini (rows3 w₁ place_positions n) stretch))
    (e₂ : system_at n w₂ ≡ plus_elements n (stretches_by n ini (rows3 w₁ place_positions n) stretch) (system_at n w₁))
    (a₂ : after_vectors w₂ ≡ after_vectors w₁)
    (ey : y ≡ sum_energies x (bends n rest (staged_shape n w₂) bend))
    (e₃ : system_at n w₃ ≡ plus_elements n (bends n rest (staged_shape n w₂) bend) (system_at n w₂))
    (a₃ : after_vectors w₃ ≡ after_vectors w₂)
    (e₄ : system_at n w₄ ≡ with_diagonal n plus_zero (system_at n w₃))
    (a₄ : after_vectors w₄ ≡ after_vectors w₃) where
  stretched : stretches_by n ini (rows3 w₁ place_positions n) stretch ≡ stretches n rest.positions (rows3 w place_positions n) stretch
  stretched = rw (ei, rows3_kept w w₁ a₁ place_positions n (omega arith)) (stretches_by_lem n rest.positions (rows3 w place_positions n) stretch h)

  staged : staged_shape n w₂ ≡ staged_shape n w
  staged = shape_kept w w₂ (a₂ ∙ a₁) n

  assembled_energy : y ≡ hair_energy n rest (staged_shape n w) stretch bend
  unfolding hair_energy hair_elements staged_shape
  assembled_energy = rw (ey, ex, stretched, staged) (energies_join plus_zero _ _)

  assembled_system : system_at n w₄ ≡ hair_system n rest (staged_shape n w) stretch bend
  unfolding hair_system hair_elements staged_shape
  assembled_system = rw (e₄, e₃, e₂, e₁, stretched, staged) (ap (with_diagonal n plus_zero) (assembled_join n _ _))

  pub assembly : (y ≡ hair_energy n rest (staged_shape n w) stretch bend) × ((system_at n w₄ ≡ hair_system n rest (staged_shape n w) stretch bend) × (after_vectors w₄ ≡ after_vectors w))
  assembly = (assembled_energy, (assembled_system, a₄ ∙ a₃ ∙ a₂ ∙ a₁))
