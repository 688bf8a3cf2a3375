-- Blocks of three by three numbers, an array of arrays: A[i][j] is row i, column j.
use Rattle.std.specs.Prelude.{Float}
use Rattle.vectors.specs.Number.{◌⊗◌, plus_zero, plus_one}
use Rattle.vectors.specs.Vec3.{vec3, vec3_add, vec3_sub, vec3_scale, vec3_add_three}
use Rattle.vectors.specs.declared.vec3.Vec3.{Vec3}
use Rattle.vectors.specs.declared.mat3.Mat3.{Mat3}

abbrev pub mat3 : Vec3 → Vec3 → Vec3 → Mat3
mat3 a b c = record { r0 = a; r1 = b; r2 = c }

-- adding blocks adds every entry, zeros too
unfoldable pub mat3_add : Mat3 → Mat3 → Mat3
mat3_add a b = mat3 (vec3_add a.r0 b.r0) (vec3_add a.r1 b.r1) (vec3_add a.r2 b.r2)

-- `add_three`: (a + b) + c
unfoldable pub mat3_add_three : Mat3 → Mat3 → Mat3 → Mat3
mat3_add_three a b c = mat3_add (mat3_add a b) c

unfoldable pub mat3_scale : Mat3 → Float → Mat3
mat3_scale a s = mat3 (vec3_scale a.r0 s) (vec3_scale a.r1 s) (vec3_scale a.r2 s)

unfoldable pub mat3_diagonal : Vec3 → Mat3
mat3_diagonal d = mat3 (vec3 d.x plus_zero plus_zero) (vec3 plus_zero d.y plus_zero) (vec3 plus_zero plus_zero d.z)

-- δ_ij
unfoldable pub mat3_identity : Mat3
mat3_identity = mat3_diagonal (vec3 plus_one plus_one plus_one)

-- scaled outer product, row i, column j: (s a_i) b_j
unfoldable pub mat3_scaled_outer_product : Float → Vec3 → Vec3 → Mat3
mat3_scaled_outer_product s a b = mat3 (vec3_scale b (s ⊗ a.x)) (vec3_scale b (s ⊗ a.y)) (vec3_scale b (s ⊗ a.z))

-- projection: δ_ij - z_i z_j
unfoldable pub mat3_projection : Vec3 → Mat3
mat3_projection z =
    mat3
    (vec3_sub (vec3 plus_one plus_zero plus_zero) (vec3_scale z z.x))
    (vec3_sub (vec3 plus_zero plus_one plus_zero) (vec3_scale z z.y))
    (vec3_sub (vec3 plus_zero plus_zero plus_one) (vec3_scale z z.z))

-- vector times array of arrays: entry j is (q0 A[0][j] + q1 A[1][j]) + q2 A[2][j]
unfoldable pub vec3_times_mat3 : Vec3 → Mat3 → Vec3
vec3_times_mat3 q a = vec3_add_three (vec3_scale a.r0 q.x) (vec3_scale a.r1 q.y) (vec3_scale a.r2 q.z)
