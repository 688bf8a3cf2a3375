-- Vectors of three numbers: document 01, "Vectors (stand-ins)".
use Rattle.std.specs.Prelude.{Float}
use Rattle.roots.specs.Sqrt.{sqrt_of}
use Rattle.vectors.specs.Number.{◌⊕◌, ◌⊖◌, ◌⊗◌, ◌⊘◌, plus_one}
use Rattle.vectors.specs.declared.vec3.Vec3.{Vec3}

abbrev pub vec3 : Float → Float → Float → Vec3
vec3 a b c = record { x = a; y = b; z = c }

unfoldable pub vec3_add : Vec3 → Vec3 → Vec3
vec3_add a b = vec3 (a.x ⊕ b.x) (a.y ⊕ b.y) (a.z ⊕ b.z)

unfoldable pub vec3_sub : Vec3 → Vec3 → Vec3
vec3_sub a b = vec3 (a.x ⊖ b.x) (a.y ⊖ b.y) (a.z ⊖ b.z)

unfoldable pub vec3_scale : Vec3 → Float → Vec3
vec3_scale a s = vec3 (s ⊗ a.x) (s ⊗ a.y) (s ⊗ a.z)

-- `add_three`: (a + b) + c
unfoldable pub vec3_add_three : Vec3 → Vec3 → Vec3 → Vec3
vec3_add_three a b c = vec3_add (vec3_add a b) c

-- dot = (a0 b0 + a1 b1) + a2 b2
unfoldable pub vec3_dot : Vec3 → Vec3 → Float
vec3_dot a b = a.x ⊗ b.x ⊕ a.y ⊗ b.y ⊕ a.z ⊗ b.z

-- norm = root of dot(v, v)
unfoldable pub vec3_norm : Vec3 → Float
vec3_norm v = sqrt_of (vec3_dot v v)

-- normalize multiplies by 1 / norm
unfoldable pub vec3_normalize : Vec3 → Vec3
vec3_normalize v = vec3_scale v (plus_one ⊘ vec3_norm v)

-- cross is (a1 b2 - a2 b1, a2 b0 - a0 b2, a0 b1 - a1 b0)
unfoldable pub vec3_cross : Vec3 → Vec3 → Vec3
vec3_cross a b = vec3 (a.y ⊗ b.z ⊖ a.z ⊗ b.y) (a.z ⊗ b.x ⊖ a.x ⊗ b.z) (a.x ⊗ b.y ⊖ a.y ⊗ b.x)

-- `orthogonalize(v, f)`: f - t v, t = dot(v, f) / dot(v, v)
unfoldable pub vec3_orthogonalize : Vec3 → Vec3 → Vec3
vec3_orthogonalize v f = vec3_sub f (vec3_scale v (vec3_dot v f ⊘ vec3_dot v v))
