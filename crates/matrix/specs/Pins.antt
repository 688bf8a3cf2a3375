-- Pins: document 01, "The areas", four bytes a vertex, nonzero is pinned.
use Rattle.std.specs.Prelude.{Bool, true, false, List, ℕ, zero, suc, ◌+◌, ◌*◌, eqb, get_or, Float}
use Rattle.vectors.specs.Number.{plus_zero, plus_one}
use Rattle.vectors.specs.Vec4.{vec4}
use Rattle.vectors.specs.Mat4.{mat4}
use Rattle.vectors.specs.declared.vec4.Vec4.{Vec4}
use Rattle.vectors.specs.declared.mat4.Mat4.{Mat4}
use Rattle.matrix.specs.Parts.{table}
use Rattle.matrix.specs.Rows.{zero_row, zero_block}
use Rattle.matrix.specs.Blocks.{matrix_of, block_in}

-- The old value where the byte pins, else the new one.
unfoldable pub unless_pinned : {A : Type 0} → ℕ → A → A → A
unless_pinned zero old new = new
unless_pinned (suc b) old new = old

-- sparse_square.rs, lines 64 to 67: a number is kept where its pin is 0.
abbrev pub unless_fixed : ℕ → Float → Float
unless_fixed pin x = unless_pinned pin plus_zero x

-- lines 63 to 68: the row whose pins begin at o
unfoldable pub row_unless_fixed : List ℕ → ℕ → Vec4 → Vec4
row_unless_fixed pins o v = vec4 (unless_fixed (get_or pins o 0) v.x) (unless_fixed (get_or pins (o + 1) 0) v.y) (unless_fixed (get_or pins (o + 2) 0) v.z) (unless_fixed (get_or pins (o + 3) 0) v.w)

-- `set_fix_dof_to_rhs_vector`, lines 57 to 70
unfoldable pub set_fix_dof_to_rhs_vector : ℕ → List ℕ → List Vec4 → List Vec4
set_fix_dof_to_rhs_vector n pins rows = table n (λ i. row_unless_fixed pins (4 * i) (get_or rows i zero_row))

-- lines 15 to 55: what a pinned column becomes, +0 in an off-diagonal block, in the diagonal block its unit column (with 1 for `val_dia`)
abbrev pub unit_block : Mat4
unit_block =
    mat4
    (vec4 plus_one plus_zero plus_zero plus_zero)
    (vec4 plus_zero plus_one plus_zero plus_zero)
    (vec4 plus_zero plus_zero plus_one plus_zero)
    (vec4 plus_zero plus_zero plus_zero plus_one)

unfoldable pub pinned_columns : Bool → Mat4
pinned_columns true = unit_block
pinned_columns false = zero_block

-- e where the column's pin is not 0
abbrev pub column_fixed : ℕ → Vec4 → Vec4 → Vec4
column_fixed pin e v = unless_pinned pin e v

-- The block m at row i and column j: a pinned row of it is 0, a pinned column is that of e.
unfoldable pub block_fixed : List ℕ → ℕ → ℕ → Mat4 → Mat4 → Mat4
block_fixed pins i j e m =
    mat4
    (column_fixed (get_or pins (4 * j) 0) e.c0 (row_unless_fixed pins (4 * i) m.c0))
    (column_fixed (get_or pins (4 * j + 1) 0) e.c1 (row_unless_fixed pins (4 * i) m.c1))
    (column_fixed (get_or pins (4 * j + 2) 0) e.c2 (row_unless_fixed pins (4 * i) m.c2))
    (column_fixed (get_or pins (4 * j + 3) 0) e.c3 (row_unless_fixed pins (4 * i) m.c3))

-- `set_fixed_bc` with 1, lines 3 to 55
unfoldable pub set_fixed_bc : ℕ → List ℕ → List (List Mat4) → List (List Mat4)
set_fixed_bc n pins rows = matrix_of n (λ i j. block_fixed pins i j (pinned_columns (eqb i j)) (block_in n rows i j))
