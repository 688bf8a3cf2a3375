-- Vectors of four numbers.
use Rattle.std.specs.Prelude.{Float}
use Rattle.vectors.specs.Number.{◌⊕◌, ◌⊗◌, plus_zero}
use Rattle.vectors.specs.declared.vec3.Vec3.{Vec3}
use Rattle.vectors.specs.declared.vec4.Vec4.{Vec4}

abbrev pub vec4 : Float → Float → Float → Float → Vec4
vec4 a b c d = record { x = a; y = b; z = c; w = d }

unfoldable pub vec4_add : Vec4 → Vec4 → Vec4
vec4_add a b = vec4 (a.x ⊕ b.x) (a.y ⊕ b.y) (a.z ⊕ b.z) (a.w ⊕ b.w)

unfoldable pub vec4_scale : Vec4 → Float → Vec4
vec4_scale a s = vec4 (s ⊗ a.x) (s ⊗ a.y) (s ⊗ a.z) (s ⊗ a.w)

-- dots of four entries sum upward from +0
unfoldable pub vec4_dot : Vec4 → Vec4 → Float
vec4_dot a b = plus_zero ⊕ a.x ⊗ b.x ⊕ a.y ⊗ b.y ⊕ a.z ⊗ b.z ⊕ a.w ⊗ b.w

unfoldable pub vec4_from_vec3 : Vec3 → Float → Vec4
vec4_from_vec3 v d = vec4 v.x v.y v.z d
