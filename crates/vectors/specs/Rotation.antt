-- The rotation: document 01, "Update" (stand-in for `minimum_rotation_matrix` with its product).
use Rattle.vectors.specs.Number.{◌⊕◌, ◌⊗◌, ◌⊘◌, plus_one}
use Rattle.vectors.specs.Vec3.{vec3, vec3_dot, vec3_cross}
use Rattle.vectors.specs.declared.vec3.Vec3.{Vec3}

-- n = cross(a, b), c = dot(a, b), entry i is (c v_i + cross(n, v)_i) + n_i (dot(n, v) / (1 + c))
unfoldable pub rotated_of : Vec3 → Vec3 → Vec3 → Vec3
rotated_of a b v =
    let n = vec3_cross a b in
    let c = vec3_dot a b in
    let m = vec3_cross n v in
    let k = vec3_dot n v ⊘ (plus_one ⊕ c) in
    vec3 (c ⊗ v.x ⊕ m.x ⊕ n.x ⊗ k) (c ⊗ v.y ⊕ m.y ⊕ n.y ⊗ k) (c ⊗ v.z ⊕ m.z ⊕ n.z ⊗ k)
