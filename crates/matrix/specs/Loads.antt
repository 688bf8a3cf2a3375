-- What a step adds to the assembled system before pins act: the pick's spring, and inertia.
use Rattle.std.specs.Prelude.{ℕ, eqb, get_or, Float}
use Rattle.std.specs.Float.{binary64}
use Rattle.std.specs.Float.Ieee.{of_bits}
use Rattle.vectors.specs.Number.{◌⊕◌, ◌⊗◌, ◌⊘◌, plus_zero, plus_one}
use Rattle.vectors.specs.Vec3.{vec3_sub, vec3_scale}
use Rattle.vectors.specs.Vec4.{vec4}
use Rattle.vectors.specs.Mat4.{mat4}
use Rattle.vectors.specs.declared.vec3.Vec3.{Vec3}
use Rattle.vectors.specs.declared.vec4.Vec4.{Vec4}
use Rattle.vectors.specs.declared.mat4.Mat4.{Mat4}
use Rattle.matrix.specs.Parts.{table}
use Rattle.matrix.specs.Rows.{zero_row}
use Rattle.matrix.specs.System.{System, changed_if}
use Rattle.matrix.specs.HairSystem.{plus_block, with_diagonal}

-- 16: rod3_darboux.rs, lines 1132 to 1134
abbrev pub pick_stiffness : Float
pick_stiffness = of_bits binary64 0x4030_0000_0000_0000

-- line 1135: the stiffness on three diagonals, zeros elsewhere
abbrev pub pick_block : Mat4
pick_block =
    mat4
    (vec4 pick_stiffness plus_zero plus_zero plus_zero)
    (vec4 plus_zero pick_stiffness plus_zero plus_zero)
    (vec4 plus_zero plus_zero pick_stiffness plus_zero)
    zero_row

-- lines 1138 to 1142: 16 (position - goal)
unfoldable pub pick_force : Vec3 → Vec3 → Vec3
pick_force position goal = vec3_scale (vec3_sub position goal) pick_stiffness

-- lines 1143 to 1145: c on the three numbers of a vertex's position
unfoldable pub pulled : Vec3 → Vec4 → Vec4
pulled c g = vec4 (g.x ⊕ c.x) (g.y ⊕ c.y) (g.z ⊕ c.z) g.w

-- of vertex v
unfoldable pub with_pull : ℕ → ℕ → Vec3 → System → System
with_pull n v c s = record { gradient = table n (λ i. changed_if (eqb v i) (pulled c) (get_or s.gradient i zero_row)); rows = s.rows }

-- lines 1129 to 1146: vertex v, at the given position, is pulled to the goal
unfoldable pub with_pick : ℕ → ℕ → Vec3 → Vec3 → System → System
with_pick n v position goal s = plus_block n v v pick_block (with_pull n v (pick_force position goal) s)

-- lines 1220 to 1225: 1 / (dt dt) on three diagonals of every vertex
unfoldable pub with_inertia : ℕ → Float → System → System
with_inertia n dt s = with_diagonal n (plus_one ⊘ (dt ⊗ dt)) s
