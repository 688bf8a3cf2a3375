-- Vectors and blocks of values of binary64: every number is one that the format holds. What the functions answer is made of such.
use Rattle.std.specs.Prelude.{T, Float}
use Rattle.std.specs.Float.{binary64}
use Rattle.std.specs.Float.Ieee.{fits}
use Rattle.vectors.specs.Vec3.{vec3_add, vec3_sub, vec3_scale, vec3_add_three, vec3_dot, vec3_norm, vec3_normalize, vec3_cross, vec3_orthogonalize}
use Rattle.vectors.specs.Mat3.{mat3_add, mat3_add_three, mat3_scale, mat3_diagonal, mat3_identity, mat3_scaled_outer_product, mat3_projection, vec3_times_mat3}
use Rattle.vectors.specs.Vec4.{vec4_add, vec4_scale, vec4_dot, vec4_from_vec3}
use Rattle.vectors.specs.Mat4.{mat4_add, mat4_from_mat3, mat4_times_vec4}
use Rattle.vectors.specs.Edge.{measured_of, edge_length}
use Rattle.vectors.specs.Angle.{sine_of, cosine_of}
use Rattle.vectors.specs.Rotation.{rotated_of}
use Rattle.vectors.specs.declared.vec3.Vec3.{Vec3}
use Rattle.vectors.specs.declared.mat3.Mat3.{Mat3}
use Rattle.vectors.specs.declared.vec4.Vec4.{Vec4}
use Rattle.vectors.specs.declared.mat4.Mat4.{Mat4}

abbrev pub Vec3Fits : Vec3 → Type 0
Vec3Fits v = T (fits binary64 v.x) × T (fits binary64 v.y) × T (fits binary64 v.z)

abbrev pub Mat3Fits : Mat3 → Type 0
Mat3Fits m = Vec3Fits m.r0 × Vec3Fits m.r1 × Vec3Fits m.r2

abbrev pub Vec4Fits : Vec4 → Type 0
Vec4Fits v = T (fits binary64 v.x) × T (fits binary64 v.y) × T (fits binary64 v.z) × T (fits binary64 v.w)

abbrev pub Mat4Fits : Mat4 → Type 0
Mat4Fits m = Vec4Fits m.c0 × Vec4Fits m.c1 × Vec4Fits m.c2 × Vec4Fits m.c3

-- Every result is made of values of the format, whatever the arguments; where numbers are only moved, those that were given must be.
pub record ResultsFit : Type 0 where
  -- vectors of three
  pub vec3_add_fits : (a b : Vec3) → Vec3Fits (vec3_add a b)
  pub vec3_sub_fits : (a b : Vec3) → Vec3Fits (vec3_sub a b)
  pub vec3_scale_fits : (a : Vec3) (s : Float) → Vec3Fits (vec3_scale a s)
  pub vec3_add_three_fits : (a b c : Vec3) → Vec3Fits (vec3_add_three a b c)
  pub vec3_dot_fits : (a b : Vec3) → T (fits binary64 (vec3_dot a b))
  pub vec3_norm_fits : (v : Vec3) → T (fits binary64 (vec3_norm v))
  pub vec3_normalize_fits : (v : Vec3) → Vec3Fits (vec3_normalize v)
  pub vec3_cross_fits : (a b : Vec3) → Vec3Fits (vec3_cross a b)
  pub vec3_orthogonalize_fits : (v f : Vec3) → Vec3Fits (vec3_orthogonalize v f)
  pub measured_fits : (v : Vec3) → T (fits binary64 (measured_of v).value)
  pub edge_length_fits : (p0 p1 : Vec3) → T (fits binary64 (edge_length p0 p1).value)
  -- blocks of three by three
  pub mat3_add_fits : (a b : Mat3) → Mat3Fits (mat3_add a b)
  pub mat3_add_three_fits : (a b c : Mat3) → Mat3Fits (mat3_add_three a b c)
  pub mat3_scale_fits : (a : Mat3) (s : Float) → Mat3Fits (mat3_scale a s)
  pub mat3_diagonal_fits : (d : Vec3) → Vec3Fits d → Mat3Fits (mat3_diagonal d)
  pub mat3_identity_fits : Mat3Fits mat3_identity
  pub mat3_scaled_outer_product_fits : (s : Float) (a b : Vec3) → Mat3Fits (mat3_scaled_outer_product s a b)
  pub mat3_projection_fits : (z : Vec3) → Mat3Fits (mat3_projection z)
  pub vec3_times_mat3_fits : (q : Vec3) (a : Mat3) → Vec3Fits (vec3_times_mat3 q a)
  -- vectors of four and their blocks
  pub vec4_add_fits : (a b : Vec4) → Vec4Fits (vec4_add a b)
  pub vec4_scale_fits : (a : Vec4) (s : Float) → Vec4Fits (vec4_scale a s)
  pub vec4_dot_fits : (a b : Vec4) → T (fits binary64 (vec4_dot a b))
  pub vec4_from_vec3_fits : (v : Vec3) (d : Float) → Vec3Fits v → T (fits binary64 d) → Vec4Fits (vec4_from_vec3 v d)
  pub mat4_add_fits : (a b : Mat4) → Mat4Fits (mat4_add a b)
  pub mat4_from_mat3_fits : (m : Mat3) (d : Float) → Mat3Fits m → T (fits binary64 d) → Mat4Fits (mat4_from_mat3 m d)
  pub mat4_times_vec4_fits : (a : Mat4) (v : Vec4) → Vec4Fits (mat4_times_vec4 a v)
  -- angles and rotations
  pub sine_fits : (angle : Float) → T (fits binary64 (sine_of angle))
  pub cosine_fits : (angle : Float) → T (fits binary64 (cosine_of angle))
  pub rotated_fits : (a b v : Vec3) → Vec3Fits (rotated_of a b v)
