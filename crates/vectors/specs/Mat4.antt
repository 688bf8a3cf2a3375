-- Blocks of four by four numbers, column-major: row i, column j at place i + 4 j.
use Rattle.std.specs.Prelude.{Float}
use Rattle.vectors.specs.Number.{plus_zero}
use Rattle.vectors.specs.Vec4.{vec4, vec4_add, vec4_scale}
use Rattle.vectors.specs.declared.mat3.Mat3.{Mat3}
use Rattle.vectors.specs.declared.vec4.Vec4.{Vec4}
use Rattle.vectors.specs.declared.mat4.Mat4.{Mat4}

abbrev pub mat4 : Vec4 → Vec4 → Vec4 → Vec4 → Mat4
mat4 a b c d = record { c0 = a; c1 = b; c2 = c; c3 = d }

-- adding blocks adds every entry, zeros too
unfoldable pub mat4_add : Mat4 → Mat4 → Mat4
mat4_add a b = mat4 (vec4_add a.c0 b.c0) (vec4_add a.c1 b.c1) (vec4_add a.c2 b.c2) (vec4_add a.c3 b.c3)

-- a 3 by 3 block enters a 4 by 4 one with zeros, w at place 15
unfoldable pub mat4_from_mat3 : Mat3 → Float → Mat4
mat4_from_mat3 m d =
    mat4
    (vec4 m.r0.x m.r1.x m.r2.x plus_zero)
    (vec4 m.r0.y m.r1.y m.r2.y plus_zero)
    (vec4 m.r0.z m.r1.z m.r2.z plus_zero)
    (vec4 plus_zero plus_zero plus_zero d)

-- products of four entries sum upward from +0: entry i is (((0 + v0 A_i0) + v1 A_i1) + v2 A_i2) + v3 A_i3
unfoldable pub mat4_times_vec4 : Mat4 → Vec4 → Vec4
mat4_times_vec4 a v =
    let s0 = vec4_add (vec4 plus_zero plus_zero plus_zero plus_zero) (vec4_scale a.c0 v.x) in
    let s1 = vec4_add s0 (vec4_scale a.c1 v.y) in
    let s2 = vec4_add s1 (vec4_scale a.c2 v.z) in
    vec4_add s2 (vec4_scale a.c3 v.w)
