-- Rows of three and of four numbers, and blocks of sixteen, in a flat list.
use Rattle.std.specs.Prelude.{List, [], ◌∷◌, ◌++◌, ℕ, ◌+◌, ◌*◌, map, get_or, Float}
use Rattle.std.specs.Float.{nan}
use Rattle.vectors.specs.Number.{plus_zero}
use Rattle.vectors.specs.Vec3.{vec3}
use Rattle.vectors.specs.Vec4.{vec4}
use Rattle.vectors.specs.Mat4.{mat4}
use Rattle.vectors.specs.declared.vec3.Vec3.{Vec3}
use Rattle.vectors.specs.declared.vec4.Vec4.{Vec4}
use Rattle.vectors.specs.declared.mat4.Mat4.{Mat4}
use Rattle.matrix.specs.Parts.{table}

abbrev pub zero_row : Vec4
zero_row = vec4 plus_zero plus_zero plus_zero plus_zero

abbrev pub zero_block : Mat4
zero_block = mat4 zero_row zero_row zero_row zero_row

-- The vector that begins at o, and the n vectors from o on.
unfoldable pub row3 : List Float → ℕ → Vec3
row3 l o = vec3 (get_or l o nan) (get_or l (o + 1) nan) (get_or l (o + 2) nan)

unfoldable pub rows3 : List Float → ℕ → ℕ → List Vec3
rows3 l o n = table n (λ i. row3 l (o + 3 * i))

-- The row that begins at o.
unfoldable pub row4 : List Float → ℕ → Vec4
row4 l o = vec4 (get_or l o nan) (get_or l (o + 1) nan) (get_or l (o + 2) nan) (get_or l (o + 3) nan)

-- The n rows from o on.
unfoldable pub rows4 : List Float → ℕ → ℕ → List Vec4
rows4 l o n = table n (λ i. row4 l (o + 4 * i))

-- The 4 by 4 block that begins at o, column by column, and the n blocks from o on.
unfoldable pub block16 : List Float → ℕ → Mat4
block16 l o = mat4 (row4 l o) (row4 l (o + 4)) (row4 l (o + 8)) (row4 l (o + 12))

unfoldable pub blocks16 : List Float → ℕ → ℕ → List Mat4
blocks16 l o n = table n (λ i. block16 l (o + 16 * i))

-- The rows and the blocks that lists of four and of sixteen numbers are.
abbrev pub cut_rows : List (List Float) → List Vec4
cut_rows ls = map (λ l. row4 l 0) ls

abbrev pub cut_blocks : List (List Float) → List Mat4
cut_blocks ls = map (λ l. block16 l 0) ls

-- A vector's numbers, and those of several vectors.
unfoldable pub numbers3 : Vec3 → List Float
numbers3 v = v.x ∷ v.y ∷ v.z ∷ []

unfoldable pub flat3 : List Vec3 → List Float
flat3 [] = []
flat3 (v ∷ vs) = numbers3 v ++ flat3 vs

-- A row's numbers, and those of several rows.
unfoldable pub numbers4 : Vec4 → List Float
numbers4 v = v.x ∷ v.y ∷ v.z ∷ v.w ∷ []

unfoldable pub flat4 : List Vec4 → List Float
flat4 [] = []
flat4 (v ∷ vs) = numbers4 v ++ flat4 vs

-- A block's numbers.
unfoldable pub numbers16 : Mat4 → List Float
numbers16 m = flat4 (m.c0 ∷ m.c1 ∷ m.c2 ∷ m.c3 ∷ [])
