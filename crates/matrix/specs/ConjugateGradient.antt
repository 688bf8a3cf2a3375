-- The solve: sparse_square.rs, `conjugate_gradient`, lines 218 to 261.
use Rattle.std.specs.Prelude.{◌≡◌, List, Bool, true, false, ℕ, zero, suc, ◌+◌, Float}
use Rattle.std.specs.Float.{binary64}
use Rattle.std.specs.Float.Ieee.{of_bits, neg, lt}
use Rattle.roots.specs.Sqrt.{sqrt_of}
use Rattle.vectors.specs.Number.{◌⊗◌, ◌⊘◌, plus_zero, plus_one}
use Rattle.vectors.specs.declared.vec4.Vec4.{Vec4}
use Rattle.vectors.specs.declared.mat4.Mat4.{Mat4}
use Rattle.matrix.specs.Rows.{rows4}
use Rattle.matrix.specs.Area.{place_r, place_u, place_p, place_ap, after_vectors}
use Rattle.matrix.specs.SliceOfArray.{zero_rows, dot_rows, add_scaled_vector, scale_and_add_vec}
use Rattle.matrix.specs.SparseSquare.{matrix_rows, mult_vec}

-- The residual, the solution, the direction and its product with the matrix as last worked out.
pub record Vectors : Type 0 where
  pub r : List Vec4
  pub u : List Vec4
  pub p : List Vec4
  pub ap : List Vec4

-- As they stand in the area w.
abbrev pub vectors_at : ℕ → List Float → Vectors
vectors_at n w = record { r = rows4 w place_r n; u = rows4 w place_u n; p = rows4 w place_p n; ap = rows4 w place_ap n }

-- The vectors, and the residual's square.
pub record Solving : Type 0 where
  pub r : List Vec4
  pub u : List Vec4
  pub p : List Vec4
  pub ap : List Vec4
  pub rho : Float

abbrev pub vectors_of : Solving → Vectors
vectors_of s = record { r = s.r; u = s.u; p = s.p; ap = s.ap }

-- The vectors of the area w, with the square beside it.
unfoldable pub solving_at : ℕ → List Float → Float → Solving
solving_at n w rho = record { r = rows4 w place_r n; u = rows4 w place_u n; p = rows4 w place_p n; ap = rows4 w place_ap n; rho = rho }

-- The matrix and what stands after the vectors are in v as they were in w.
pub record Kept (n : ℕ) (w v : List Float) : Type 0 where
  pub matrix : matrix_rows v n ≡ matrix_rows w n
  pub after : after_vectors v ≡ after_vectors w

module _ (n : ℕ) (rows : List (List Mat4)) (s : Solving) where
  -- line 242
  unfoldable pub product_of : List Vec4
  product_of = mult_vec n plus_zero plus_one rows s.p s.ap

  -- lines 243 to 245
  unfoldable pub alpha_of : Float
  alpha_of = s.rho ⊘ dot_rows s.p product_of

  -- line 247
  unfoldable pub residual_of : List Vec4
  residual_of = add_scaled_vector s.r (neg alpha_of) product_of

  -- lines 242 to 248: along the direction, as far as the residual falls
  abbrev pub descended : Solving
  descended = record { r = residual_of; u = add_scaled_vector s.u alpha_of s.p; p = s.p; ap = product_of; rho = dot_rows residual_of residual_of }

-- lines 255 to 257: the next direction, from the squares before and after
unfoldable pub redirected : Float → Solving → Solving
redirected rho s = record { r = s.r; u = s.u; p = scale_and_add_vec s.p (s.rho ⊘ rho) s.r; ap = s.ap; rho = s.rho }

-- lines 233 to 239, from the residual r; that ap begins as +0 is document 01's ("Solve"), and so rod3_darboux.rs has it, lines 1154 and 1234
unfoldable pub started : ℕ → List Vec4 → Solving
started n r = record { r = r; u = zero_rows n; p = r; ap = zero_rows n; rho = dot_rows r r }

-- What the solve leaves and answers: the vectors after its last iteration, the number of iterations and the last ratio.
pub record Outcome : Type 0 where
  pub left : Vectors
  pub count : ℕ
  pub ratio : Float

abbrev pub outcome : Vectors → ℕ → Float → Outcome
outcome v k x = record { left = v; count = k; ratio = x }

module _ (n : ℕ) (rows : List (List Mat4)) (inverse tolerance : Float) where
  -- line 249
  unfoldable pub ratio_of : Float → Float
  ratio_of rho = sqrt_of (rho ⊗ inverse)

  -- lines 240 to 260. Before the next of the iterations that are left: whether the last ratio is below the tolerance, the outcome if so, and the state that it else goes on from.
  unfoldable pub iterated : ℕ → Bool → Outcome → Solving → Outcome
  iterated zero true o s = o
  iterated zero false o s = outcome (vectors_of s) o.count o.ratio
  iterated (suc left) true o s = o
  iterated (suc left) false o s =
      let t = descended n rows s in
      let x = ratio_of t.rho in
      iterated left (lt x tolerance) (outcome (vectors_of t) (o.count + 1) x) (redirected s.rho t)

-- 2^-52, line 235
abbrev pub epsilon : Float
epsilon = of_bits binary64 0x3cb0_0000_0000_0000

-- `conjugate_gradient`: a start whose square is below 2^-52 ends the solve with 0 iterations, ratio 0 and solution +0. The direction is then the residual; the Rust leaves what stood there.
unfoldable pub conjugate_gradient : ℕ → List (List Mat4) → Float → ℕ → List Vec4 → Outcome
conjugate_gradient n rows tolerance limit r =
    let s = started n r in
    iterated n rows (plus_one ⊘ s.rho) tolerance limit (lt s.rho epsilon) (outcome (vectors_of s) 0 plus_zero) s
