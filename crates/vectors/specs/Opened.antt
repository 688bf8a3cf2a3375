-- Opens all that computing with vectors, angles and rotations needs: an evaluated example says `unfolding opened`, and nothing else does.
use Rattle.std.specs.Prelude.{ℕ}
use Rattle.std.specs.Float.Ieee.{add, sub, mul, div, rem, neg, lt, of_int, of_bits, to_bits}
use Rattle.roots.specs.Opened.{opened as opened_roots}
use Rattle.vectors.specs.Vec3.{vec3_add, vec3_sub, vec3_scale, vec3_add_three, vec3_dot, vec3_norm, vec3_normalize, vec3_cross, vec3_orthogonalize}
use Rattle.vectors.specs.Mat3.{mat3_add, mat3_add_three, mat3_scale, mat3_diagonal, mat3_identity, mat3_scaled_outer_product, mat3_projection, vec3_times_mat3}
use Rattle.vectors.specs.Vec4.{vec4_add, vec4_scale, vec4_dot, vec4_from_vec3}
use Rattle.vectors.specs.Mat4.{mat4_add, mat4_from_mat3, mat4_times_vec4}
use Rattle.std.specs.Float.{float_is_finite}
use Rattle.vectors.specs.Finite.{vec3_is_finite, vec4_is_finite, mat4_is_finite}
use Rattle.vectors.specs.Edge.{acceptable, measured_of, edge_length}
use Rattle.vectors.specs.Angle.{reduced_of, series_of, sine_divisors, cosine_divisors, sine_of, cosine_of}
use Rattle.vectors.specs.Rotation.{rotated_of}

unfoldable pub opened : ℕ
unfolding vec3_add vec3_sub vec3_scale vec3_add_three vec3_dot vec3_norm vec3_normalize vec3_cross vec3_orthogonalize mat3_add mat3_add_three mat3_scale mat3_diagonal mat3_identity mat3_scaled_outer_product mat3_projection vec3_times_mat3 vec4_add vec4_scale vec4_dot vec4_from_vec3 mat4_add mat4_from_mat3 mat4_times_vec4 float_is_finite vec3_is_finite vec4_is_finite mat4_is_finite acceptable measured_of edge_length reduced_of series_of sine_divisors cosine_divisors sine_of cosine_of rotated_of add sub mul div rem neg lt of_int of_bits to_bits opened_roots
opened = 0
