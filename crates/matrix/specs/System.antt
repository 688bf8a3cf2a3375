-- The system that a step solves: a gradient of a row for each vertex, and the matrix.
use Rattle.std.specs.Prelude.{Bool, true, false, ◌&&◌, List, [], ◌∷◌, ℕ, Float}
use Rattle.vectors.specs.Finite.{is_finite, vec4_is_finite, mat4_is_finite}
use Rattle.vectors.specs.declared.vec4.Vec4.{Vec4}
use Rattle.vectors.specs.declared.mat4.Mat4.{Mat4}
use Rattle.matrix.specs.Rows.{rows4}
use Rattle.matrix.specs.Area.{place_r}
use Rattle.matrix.specs.SparseSquare.{matrix_rows}

pub record System : Type 0 where
  pub gradient : List Vec4
  pub rows : List (List Mat4)

-- As it stands in the area w: the gradient is the residual that the solve begins with.
unfoldable pub system_at : ℕ → List Float → System
system_at n w = record { gradient = rows4 w place_r n; rows = matrix_rows w n }

-- x, changed by f where the test holds.
unfoldable pub changed_if : {A : Type 0} → Bool → (A → A) → A → A
changed_if true f x = f x
changed_if false f x = x

-- Whether t holds of all elements.
unfoldable pub every : {A : Type 0} → (A → Bool) → List A → Bool
every t [] = true
every t (x ∷ xs) = t x && every t xs

-- "When the bench declines", 8: energy, gradient and blocks are finite.
unfoldable pub system_is_finite : Float → System → Bool
system_is_finite energy s = is_finite energy && every vec4_is_finite s.gradient && every (every mat4_is_finite) s.rows
