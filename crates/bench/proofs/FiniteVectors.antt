-- Vectors are finite where their numbers, one behind the other, are.
use mathlib.Core.Path.{◌≡◌, refl, sym, ◌∙◌}
use mathlib.Core.Bool.{Bool, and_assoc}
use mathlib.Core.List.{List, [], ◌∷◌}
use Prim.Native.Nat.{ℕ}
use Rattle.vectors.specs.Finite.{is_finite, vec3_is_finite}
use Rattle.vectors.specs.declared.vec3.Vec3.{Vec3}
use Rattle.matrix.specs.Parts.{table}
use Rattle.matrix.specs.Rows.{numbers3, flat3}
use Rattle.matrix.specs.System.{every}

pub finite_flat : (l : List Vec3) → every is_finite (flat3 l) ≡ every vec3_is_finite l
unfolding every flat3 numbers3 vec3_is_finite
finite_flat [] = refl
finite_flat (v ∷ l) = rw (finite_flat l) (simp and_assoc)

-- a test of the vectors of a table
pub finite_all : (b : Bool) (n : ℕ) (f : ℕ → Vec3) → b ≡ every vec3_is_finite (table n f) → b ≡ every is_finite (flat3 (table n f))
finite_all b n f h = h ∙ sym (finite_flat (table n f))
