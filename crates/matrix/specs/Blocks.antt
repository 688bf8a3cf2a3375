-- The matrix by row and column: what changes it says of each block what becomes of it.
use Rattle.std.specs.Prelude.{List, [], ℕ, get_or}
use Rattle.vectors.specs.declared.mat4.Mat4.{Mat4}
use Rattle.matrix.specs.Parts.{table}
use Rattle.matrix.specs.Rows.{zero_block}
use Rattle.matrix.specs.Layout.{row_length, column_at, column_place}

-- The matrix of n rows whose block at row i and column j is f i j.
unfoldable pub matrix_of : ℕ → (ℕ → ℕ → Mat4) → List (List Mat4)
matrix_of n f = table n (λ i. table (row_length n i) (λ c. f i (column_at n i c)))

-- The block at row i and column j of a matrix of n rows.
unfoldable pub block_in : ℕ → List (List Mat4) → ℕ → ℕ → Mat4
block_in n rows i j = get_or (get_or rows i []) (column_place n i j) zero_block
