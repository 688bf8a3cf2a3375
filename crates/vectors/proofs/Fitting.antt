-- Every result is made of values of binary64, whatever the arguments; where numbers are only moved, so are those that were given.
-- Each number is the result of an operation that rounds.
use mathlib.Core.List.{List, [], ◌∷◌}
use lib.Dec.{T}
use lib.Ieee.{Float, binary64, fits}
use lib.Ieee.Fits.{add-fits, sub-fits, mul-fits}
use lib.Ieee.Bits.{of_bits-fits}
use Rattle.roots.proofs.Correct.{sqrt_fits}
use Rattle.vectors.specs.Number.{plus_zero, plus_one}
use Rattle.vectors.specs.Vec3.{vec3_add, vec3_sub, vec3_scale, vec3_add_three, vec3_dot, vec3_norm, vec3_normalize, vec3_cross, vec3_orthogonalize}
use Rattle.vectors.specs.Mat3.{mat3_add, mat3_add_three, mat3_scale, mat3_diagonal, mat3_identity, mat3_scaled_outer_product, mat3_projection, vec3_times_mat3}
use Rattle.vectors.specs.Vec4.{vec4_add, vec4_scale, vec4_dot, vec4_from_vec3}
use Rattle.vectors.specs.Mat4.{mat4_add, mat4_from_mat3, mat4_times_vec4}
use Rattle.vectors.specs.Fits.{Vec3Fits, Mat3Fits, Vec4Fits, Mat4Fits, ResultsFit}
use Rattle.vectors.specs.Edge.{measured_of, edge_length}
use Rattle.vectors.specs.Angle.{series_of, sine_of, cosine_of}
use Rattle.vectors.specs.Rotation.{rotated_of}
use Rattle.vectors.specs.declared.vec3.Vec3.{Vec3}
use Rattle.vectors.specs.declared.mat3.Mat3.{Mat3}
use Rattle.vectors.specs.declared.vec4.Vec4.{Vec4}
use Rattle.vectors.specs.declared.mat4.Mat4.{Mat4}

zero_fits : T (fits binary64 plus_zero)
zero_fits = of_bits-fits binary64 0

one_fits : T (fits binary64 plus_one)
one_fits = of_bits-fits binary64 0x3ff0_0000_0000_0000

-- ---- vectors of three
pub vec3_add_fits : (a b : Vec3) → Vec3Fits (vec3_add a b)
unfolding vec3_add
vec3_add_fits a b = (add-fits binary64 _ _, add-fits binary64 _ _, add-fits binary64 _ _)

pub vec3_sub_fits : (a b : Vec3) → Vec3Fits (vec3_sub a b)
unfolding vec3_sub
vec3_sub_fits a b = (sub-fits binary64 _ _, sub-fits binary64 _ _, sub-fits binary64 _ _)

pub vec3_scale_fits : (a : Vec3) (s : Float) → Vec3Fits (vec3_scale a s)
unfolding vec3_scale
vec3_scale_fits a s = (mul-fits binary64 _ _, mul-fits binary64 _ _, mul-fits binary64 _ _)

pub vec3_add_three_fits : (a b c : Vec3) → Vec3Fits (vec3_add_three a b c)
unfolding vec3_add_three
vec3_add_three_fits a b c = vec3_add_fits (vec3_add a b) c

pub vec3_dot_fits : (a b : Vec3) → T (fits binary64 (vec3_dot a b))
unfolding vec3_dot
vec3_dot_fits a b = add-fits binary64 _ _

pub vec3_norm_fits : (v : Vec3) → T (fits binary64 (vec3_norm v))
unfolding vec3_norm
vec3_norm_fits v = sqrt_fits (vec3_dot v v) (vec3_dot_fits v v)

pub vec3_normalize_fits : (v : Vec3) → Vec3Fits (vec3_normalize v)
unfolding vec3_normalize
vec3_normalize_fits v = vec3_scale_fits v _

pub vec3_cross_fits : (a b : Vec3) → Vec3Fits (vec3_cross a b)
unfolding vec3_cross
vec3_cross_fits a b = (sub-fits binary64 _ _, sub-fits binary64 _ _, sub-fits binary64 _ _)

pub vec3_orthogonalize_fits : (v f : Vec3) → Vec3Fits (vec3_orthogonalize v f)
unfolding vec3_orthogonalize
vec3_orthogonalize_fits v f = vec3_sub_fits f _

pub measured_fits : (v : Vec3) → T (fits binary64 (measured_of v).value)
unfolding measured_of
measured_fits v = sqrt_fits (vec3_dot v v) (vec3_dot_fits v v)

pub edge_length_fits : (p0 p1 : Vec3) → T (fits binary64 (edge_length p0 p1).value)
unfolding edge_length
edge_length_fits p0 p1 = measured_fits (vec3_sub p1 p0)

-- ---- blocks of three by three
pub mat3_add_fits : (a b : Mat3) → Mat3Fits (mat3_add a b)
unfolding mat3_add
mat3_add_fits a b = (vec3_add_fits _ _, vec3_add_fits _ _, vec3_add_fits _ _)

pub mat3_add_three_fits : (a b c : Mat3) → Mat3Fits (mat3_add_three a b c)
unfolding mat3_add_three
mat3_add_three_fits a b c = mat3_add_fits (mat3_add a b) c

pub mat3_scale_fits : (a : Mat3) (s : Float) → Mat3Fits (mat3_scale a s)
unfolding mat3_scale
mat3_scale_fits a s = (vec3_scale_fits _ s, vec3_scale_fits _ s, vec3_scale_fits _ s)

pub mat3_diagonal_fits : (d : Vec3) → Vec3Fits d → Mat3Fits (mat3_diagonal d)
unfolding mat3_diagonal
mat3_diagonal_fits d h = ((h.0, zero_fits, zero_fits), (zero_fits, h.1, zero_fits), (zero_fits, zero_fits, h.2))

pub mat3_identity_fits : Mat3Fits mat3_identity
unfolding mat3_identity
mat3_identity_fits = mat3_diagonal_fits _ (one_fits, one_fits, one_fits)

pub mat3_scaled_outer_product_fits : (s : Float) (a b : Vec3) → Mat3Fits (mat3_scaled_outer_product s a b)
unfolding mat3_scaled_outer_product
mat3_scaled_outer_product_fits s a b = (vec3_scale_fits b _, vec3_scale_fits b _, vec3_scale_fits b _)

pub mat3_projection_fits : (z : Vec3) → Mat3Fits (mat3_projection z)
unfolding mat3_projection
mat3_projection_fits z = (vec3_sub_fits _ _, vec3_sub_fits _ _, vec3_sub_fits _ _)

pub vec3_times_mat3_fits : (q : Vec3) (a : Mat3) → Vec3Fits (vec3_times_mat3 q a)
unfolding vec3_times_mat3
vec3_times_mat3_fits q a = vec3_add_three_fits _ _ _

-- ---- vectors of four and their blocks
pub vec4_add_fits : (a b : Vec4) → Vec4Fits (vec4_add a b)
unfolding vec4_add
vec4_add_fits a b = (add-fits binary64 _ _, add-fits binary64 _ _, add-fits binary64 _ _, add-fits binary64 _ _)

pub vec4_scale_fits : (a : Vec4) (s : Float) → Vec4Fits (vec4_scale a s)
unfolding vec4_scale
vec4_scale_fits a s = (mul-fits binary64 _ _, mul-fits binary64 _ _, mul-fits binary64 _ _, mul-fits binary64 _ _)

pub vec4_dot_fits : (a b : Vec4) → T (fits binary64 (vec4_dot a b))
unfolding vec4_dot
vec4_dot_fits a b = add-fits binary64 _ _

pub vec4_from_vec3_fits : (v : Vec3) (d : Float) → Vec3Fits v → T (fits binary64 d) → Vec4Fits (vec4_from_vec3 v d)
unfolding vec4_from_vec3
vec4_from_vec3_fits v d h k = (h.0, h.1, h.2, k)

pub mat4_add_fits : (a b : Mat4) → Mat4Fits (mat4_add a b)
unfolding mat4_add
mat4_add_fits a b = (vec4_add_fits _ _, vec4_add_fits _ _, vec4_add_fits _ _, vec4_add_fits _ _)

pub mat4_from_mat3_fits : (m : Mat3) (d : Float) → Mat3Fits m → T (fits binary64 d) → Mat4Fits (mat4_from_mat3 m d)
unfolding mat4_from_mat3
mat4_from_mat3_fits m d h k = (
  (h.0.0, h.1.0, h.2.0, zero_fits),
  (h.0.1, h.1.1, h.2.1, zero_fits),
  (h.0.2, h.1.2, h.2.2, zero_fits),
  (zero_fits, zero_fits, zero_fits, k),
)

pub mat4_times_vec4_fits : (a : Mat4) (v : Vec4) → Vec4Fits (mat4_times_vec4 a v)
unfolding mat4_times_vec4
mat4_times_vec4_fits a v = vec4_add_fits _ _

-- ---- angles and rotations
pub sine_fits : (angle : Float) → T (fits binary64 (sine_of angle))
unfolding sine_of
sine_fits angle = mul-fits binary64 _ _

series_fits : (z : Float) (l : List Float) → T (fits binary64 (series_of z l))
unfolding series_of
series_fits z [] = one_fits
series_fits z (d ∷ ds) = sub-fits binary64 _ _

pub cosine_fits : (angle : Float) → T (fits binary64 (cosine_of angle))
unfolding cosine_of
cosine_fits angle = series_fits _ _

pub rotated_fits : (a b v : Vec3) → Vec3Fits (rotated_of a b v)
unfolding rotated_of
rotated_fits a b v = (add-fits binary64 _ _, add-fits binary64 _ _, add-fits binary64 _ _)

-- ---- all together
pub results_fit : ResultsFit
results_fit = record {
  vec3_add_fits = vec3_add_fits;
  vec3_sub_fits = vec3_sub_fits;
  vec3_scale_fits = vec3_scale_fits;
  vec3_add_three_fits = vec3_add_three_fits;
  vec3_dot_fits = vec3_dot_fits;
  vec3_norm_fits = vec3_norm_fits;
  vec3_normalize_fits = vec3_normalize_fits;
  vec3_cross_fits = vec3_cross_fits;
  vec3_orthogonalize_fits = vec3_orthogonalize_fits;
  measured_fits = measured_fits;
  edge_length_fits = edge_length_fits;
  mat3_add_fits = mat3_add_fits;
  mat3_add_three_fits = mat3_add_three_fits;
  mat3_scale_fits = mat3_scale_fits;
  mat3_diagonal_fits = mat3_diagonal_fits;
  mat3_identity_fits = mat3_identity_fits;
  mat3_scaled_outer_product_fits = mat3_scaled_outer_product_fits;
  mat3_projection_fits = mat3_projection_fits;
  vec3_times_mat3_fits = vec3_times_mat3_fits;
  vec4_add_fits = vec4_add_fits;
  vec4_scale_fits = vec4_scale_fits;
  vec4_dot_fits = vec4_dot_fits;
  vec4_from_vec3_fits = vec4_from_vec3_fits;
  mat4_add_fits = mat4_add_fits;
  mat4_from_mat3_fits = mat4_from_mat3_fits;
  mat4_times_vec4_fits = mat4_times_vec4_fits;
  sine_fits = sine_fits;
  cosine_fits = cosine_fits;
  rotated_fits = rotated_fits;
}
